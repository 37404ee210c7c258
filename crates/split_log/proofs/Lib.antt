-- Laws of what specs/ defines.
--     LineLaws   two places have room
pub mod LineLaws
