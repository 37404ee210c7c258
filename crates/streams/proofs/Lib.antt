-- Laws of what specs/ defines.
--     SentLaws   what comes of several writes
pub mod SentLaws
