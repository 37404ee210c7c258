-- `text_entries::passing::pass_component` meets its contract.
use Rattle.text_entries.proofs.Past.{passings}
use Rattle.text_entries.proofs.passing.pass_component.Goals as goal

pub loop-at-init : goal.loop-at-init
loop-at-init g c = search passings

pub bound_at-f-requires : goal.bound_at-f-requires
bound_at-f-requires g c = search passings

pub enum_told-1 : goal.enum_told-1
enum_told-1 g c = search passings

pub overflow_add-depth : goal.overflow_add-depth
overflow_add-depth g c = search passings

pub loop-at-smaller-in-Begin : goal.loop-at-smaller-in-Begin
loop-at-smaller-in-Begin g c = search passings

pub loop-at-preserved-in-Begin : goal.loop-at-preserved-in-Begin
loop-at-preserved-in-Begin g c = search passings

pub enum_told-in-End : goal.enum_told-in-End
enum_told-in-End g c = search passings

pub returns-then-depth-eq0 : goal.returns-then-depth-eq0
returns-then-depth-eq0 g c = search passings

pub overflow_sub-depth : goal.overflow_sub-depth
overflow_sub-depth g c = search passings

pub loop-at-smaller-in-End : goal.loop-at-smaller-in-End
loop-at-smaller-in-End g c = search passings

pub loop-at-preserved-in-End : goal.loop-at-preserved-in-End
loop-at-preserved-in-End g c = search passings

pub enum_told-in-Property : goal.enum_told-in-Property
enum_told-in-Property g c = search passings

pub loop-at-smaller-in-Property : goal.loop-at-smaller-in-Property
loop-at-smaller-in-Property g c = search passings

pub loop-at-preserved-in-Property : goal.loop-at-preserved-in-Property
loop-at-preserved-in-Property g c = search passings

pub enum_told-in-Nothing : goal.enum_told-in-Nothing
enum_told-in-Nothing g c = search passings

pub loop-at-smaller : goal.loop-at-smaller
loop-at-smaller g c = search passings

pub loop-at-preserved : goal.loop-at-preserved
loop-at-preserved g c = search passings

pub returns : goal.returns
returns g c = search passings
