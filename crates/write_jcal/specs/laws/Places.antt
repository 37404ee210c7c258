-- Laws of what specs/Places.antt defines.
--     leading_bare, leading_more    what is left to write after the leading properties
--     head_put                      what stands before the subcomponents;   ahead_ready: where they begin
use Rattle.std.specs.Prelude.{◌≡◌, Bool, true, List, ℕ}
use Rattle.std.proofs.Common.{sym, ap, subst, ◌∙◌}
use Rattle.octets.specs.Ascii.{ascii}
use Rattle.octets.specs.Append.{◌⊕◌}
use Rattle.octets.specs.laws.Append.{append_regroup}
use Rattle.octets.specs.Class.{upper}
use Rattle.octets.specs.laws.Letters.{lower_any_case}
use Rattle.octets.specs.Words.{joined_by}
use Rattle.names.specs.Table.{place_of}
use Rattle.sink.specs.Sink.{Put}
use Rattle.sink.specs.laws.Sink.{◌▷◌}
use Rattle.schema.specs.Components.{component_names}
use Rattle.schema.specs.Numbers.{component_name}
use Rattle.read_text_line.specs.Ready.{Ready}
use Rattle.calendar.specs.Calendar.{Components}
use Rattle.text.specs.Tree.{Entry}
use Rattle.edition.specs.declared.Edition.{Edition}
use Rattle.json_text.specs.Bytes.{value_separator}
use Rattle.json_text.specs.Write.{quoted}
use Rattle.text_entries.specs.declared.levels.Ahead.{Ahead}
use Rattle.text_entries.specs.Entries.{entries_at}
use Rattle.text_entries.specs.Levels.{whole, AheadAt}
use Rattle.write_json.specs.Separated.{separator, following}
use Rattle.write_json.specs.laws.Separated.{listing_rest, listing_end, put_first}
use Rattle.write_jcal.specs.declared.properties.Led.{Led}
use Rattle.write_jcal.specs.declared.properties.Walked.{Walked}
use Rattle.write_jcal.specs.Walks.{own_json, name_json, head_json}
use Rattle.write_jcal.specs.laws.Walks.{own_place}
use Rattle.write_jcal.specs.Places.{PropertiesPut, LeadingPut}

module _ {ed : Edition} where
  module _ {d e : List ℕ} {o k mode : ℕ} {s : List ℕ} {from : ℕ} {r : Led} (l : LeadingPut ed d e o k mode s from r) where
    pub leading_bare : r.ahead.bare ≡ true → PropertiesPut ed whole d e o (joined_by value_separator (own_json (component_name k) (entries_at ed mode s from))) mode s from (record { to = r.to; ahead = r.ahead })
    leading_bare h = record { put = put_first _ (listing_end l.listing (l.all h)); ahead = l.ahead }

    pub leading_more : {f : List ℕ} {p : ℕ} → Put e f r.to p (following r.started (own_json (component_name k) (entries_at ed mode s r.ahead.inner))) →
        PropertiesPut ed whole d f o (joined_by value_separator (own_json (component_name k) (entries_at ed mode s from))) mode s from (record { to = p; ahead = r.ahead })
    leading_more b = record { put = put_first _ (listing_rest l.listing b); ahead = l.ahead }

  -- where its subcomponents begin
  pub ahead_ready : {u : Components → Components} {d e : List ℕ} {o : ℕ} {bs : List ℕ} {mode : ℕ} {s : List ℕ} {from : ℕ} {r : Walked} → PropertiesPut ed u d e o bs mode s from r → Ready mode s r.ahead.inner
  ahead_ready p = p.ahead.ready

  -- n is the name as it stands
  pub head_put : (n : List ℕ) (mode : ℕ) (s : List ℕ) {h : Components → Components} {from : ℕ} {w : Walked} {b : Ahead} (started : Bool) {d e f g : List ℕ} {o a r : ℕ} (k : ℕ) → k ≡ place_of (upper n) component_names →
      Put d e o a (separator started ⊕ name_json n) →
      PropertiesPut ed whole e f a (joined_by value_separator (own_json (component_name k) (entries_at ed mode s from))) mode s from w → AheadAt ed h mode s from b → Put f g w.to r (ascii "],[") →
      PropertiesPut ed h d g o (separator started ⊕ head_json (upper n) (entries_at ed mode s from)) mode s from (record { to = r; ahead = b })
  head_put n mode s {from = from} started {d = d} {e = e} {g = g} {o = o} {a = a} {r = r} k q u v x z =
      let es : List Entry = entries_at ed mode s from in
      let q' : own_json (component_name k) es ≡ own_json (upper n) es = ap (λ (k : ℕ). own_json (component_name k) es) q ∙ own_place (upper n) es in
      record {
        put = subst (Put d g o r) (append_regroup (separator started) (name_json (upper n)) (joined_by value_separator (own_json (upper n) es) ⊕ ascii "],["))
            (subst (λ (m : List ℕ). Put d e o a (separator started ⊕ ascii "[" ⊕ quoted m ⊕ ascii ",[")) (sym (lower_any_case n)) u ▷ (rw q' at v).put ▷ z);
        ahead = x;
      }
