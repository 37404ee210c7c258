-- The check as an automaton, a byte at a time, and that it finds what `first_bad` says.
--     start       where the check begins
--     step        one byte more, at an index;   verdict: what is answered once there is none
use Rattle.std.specs.Prelude.{Bool, true, false, ℕ, ◌-◌, eqb, leb, Option, None, Some}
use Rattle.octets.specs.Pick.{pick, within, ◌and◌}
use Rattle.utf8.specs.Utf8.{more, low, high, high_after}
use Rattle.utf8.specs.declared.Reading.{Reading}

-- n bytes are still to come, the next within lo and hi, in the sequence that began at index p
abbrev pub reading : ℕ → ℕ → ℕ → Bool → Bool → ℕ → Reading
reading n lo hi last ok p = record { need = n; low = lo; high = hi; last = last; ok = ok; start = p }

abbrev pub start : Reading
start = reading 0 0 0 false true 0

abbrev pub lead : ℕ → ℕ → Reading
lead i b = reading (more b) (low b) (high b) (eqb b 0xEF) (leb (more b) 3) i

abbrev pub tail : ℕ → Bool → ℕ → ℕ → Reading
tail n last b p = reading n 0x80 (high_after last b) false true p

abbrev pub step : Reading → ℕ → ℕ → Reading
step st i b =
    pick st.ok (
    pick (eqb st.need 0) (lead i b) (
    pick (within st.low st.high b) (tail (st.need - 1) st.last b st.start)
    (reading st.need st.low st.high st.last false st.start)))
    st

abbrev pub verdict : Reading → Option ℕ
verdict st = pick (st.ok and eqb st.need 0) None (Some st.start)
