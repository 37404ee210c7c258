-- Laws of what specs/Alone.antt defines.
--     alone_none, alone_is_last             whether there is one component, by what was found
--     stream_alone, stream_several          what is written of it
use Rattle.std.specs.Prelude.{◌≡◌, refl, Bool, true, false, List, ◌∷◌, ℕ, ◌<◌, Option, None, Some, IfNone, IfSome, is_some, not}
use Rattle.std.proofs.Common.{sym, ap, subst, ◌∙◌, arith, lt-ltb}
use Rattle.std.proofs.lemmas.Bool.{false≢true}
use Rattle.octets.specs.Ascii.{ascii}
use Rattle.octets.specs.Pick.{pick}
use Rattle.octets.specs.Append.{◌⊕◌}
use Rattle.octets.specs.laws.Append.{append_none}
use Rattle.octets.specs.Words.{each_after, joined_by}
use Rattle.sink.specs.Sink.{Put}
use Rattle.source.specs.Source.{rest, Settled}
use Rattle.folding.specs.Lines.{lines}
use Rattle.calendar.specs.Calendar.{Components, no_more, component}
use Rattle.calendar.specs.Levels.{levels, shallow}
use Rattle.text.specs.Tree.{Entry, begin, inner_of, calendar_of}
use Rattle.edition.specs.declared.Edition.{Edition}
use Rattle.json_text.specs.Bytes.{value_separator}
use Rattle.jcal.specs.WriteJcal.{components_json, write_jcal}
use Rattle.text_entries.specs.Entries.{entries_at}
use Rattle.text_entries.specs.laws.Entries.{entries_start}
use Rattle.text_entries.specs.Passing.{behind, Passed}
use Rattle.text_entries.specs.laws.Passing.{inner_deeper}
use Rattle.text_entries.specs.Levels.{is_none}
use Rattle.text_entries.specs.laws.Levels.{same_any}
use Rattle.write_jcal.specs.Walks.{inner_json}
use Rattle.write_jcal.specs.Alone.{is_alone, Begins, NextBegun}

-- ---- one component, and not another

alone_begin : (n : List ℕ) (es : List Entry) → is_alone (inner_of (begin n ∷ es) 0) ≡ is_none (inner_of (behind es 0) 0)
unfolding inner_of
alone_begin n es = ap is_none (inner_deeper es 0)

none_begin : (n : List ℕ) (es : List Entry) → is_none (inner_of (begin n ∷ es) 0) ≡ false
unfolding inner_of
none_begin n es = refl

module _ {ed : Edition} {mode : ℕ} {s : List ℕ} {from : ℕ} {a : Option ℕ} (p : NextBegun ed mode s from a) where
  pub begun_at : {next : ℕ} → a ≡ Some next → Begins ed mode s from next
  begun_at h = subst (λ (o : Option ℕ). IfSome o (Begins ed mode s from)) h p.begins

  begun_none : a ≡ None → inner_of (entries_at ed mode s from) 0 ≡ no_more
  begun_none h = subst (λ (o : Option ℕ). IfNone o (inner_of (entries_at ed mode s from) 0 ≡ no_more)) h p.none

  pub alone_none : a ≡ None → false ≡ is_alone (inner_of (entries_at ed mode s from) 0)
  alone_none h = sym (ap is_alone (begun_none h))

not_again : (t : Bool) {u : Bool} → u ≡ not t → t ≡ not u
not_again true h = rw h refl
not_again false h = rw h refl

-- whether nothing begins, by what was found
module _ {ed : Edition} {mode : ℕ} {s : List ℕ} {from : ℕ} where
  none_found : (b : Option ℕ) → NextBegun ed mode s from b → is_none (inner_of (entries_at ed mode s from) 0) ≡ not (is_some b)
  none_found None q = ap is_none (begun_none q refl)
  none_found (Some next) q = let b = begun_at q refl in ap is_none b.is ∙ none_begin b.name (entries_at ed mode s next)

module _ {ed : Edition} {mode : ℕ} {s : List ℕ} {from : ℕ} {a : Option ℕ} (p : NextBegun ed mode s from a) {next : ℕ} (h : a ≡ Some next) {e : ℕ} (z : Passed ed mode s next e) where
  pub alone_is_last : {b : Option ℕ} {t : Bool} → NextBegun ed mode s e b → is_some b ≡ not t → t ≡ is_alone (inner_of (entries_at ed mode s from) 0)
  alone_is_last {b} {t} q k =
      let c = begun_at p h in
      not_again t k ∙ sym (ap is_alone c.is ∙ alone_begin c.name (entries_at ed mode s next) ∙ ap (λ (es : List Entry). is_none (inner_of es 0)) (sym z.rest) ∙ none_found b q)

-- ---- the stream

one_json : (c : Components) → is_alone c ≡ true → joined_by value_separator (components_json c) ≡ write_jcal c
unfolding write_jcal components_json joined_by each_after
one_json no_more h = absurd (false≢true h)
one_json (component n ps inner no_more) h = append_none _
one_json (component n ps inner (component k qs more next)) h = absurd (false≢true h)

several_json : (c : Components) → is_alone c ≡ false → ascii "[" ⊕ joined_by value_separator (components_json c) ⊕ ascii "]" ≡ write_jcal c
unfolding write_jcal components_json
several_json no_more h = refl
several_json (component n ps inner no_more) h = absurd (false≢true (sym h))
several_json (component n ps inner (component k qs more next)) h = refl

-- l levels deep
alone_any : (c : Components) (l : ℕ) → 0 < l → is_alone c ≡ is_alone (shallow l c)
unfolding shallow pick
alone_any no_more l h = refl
alone_any (component n ps inner next) l h = rw (lt-ltb 0 l h) (same_any next l h)

alone_is : (c : Components) {t : Bool} → t ≡ is_alone c → is_alone (shallow levels c) ≡ t
alone_is c q = sym (q ∙ alone_any c levels (omega arith))

module _ (ed : Edition) {mode : ℕ} {s : List ℕ} {from : ℕ} (p : Settled mode s 0 from) {t : Bool} (q : t ≡ is_alone (inner_of (entries_at ed mode s from) 0)) {d e : List ℕ} {o r : ℕ} where
  pub stream_alone : t ≡ true → Put d e o r (joined_by value_separator (inner_json levels (entries_at ed mode s from))) → Put d e o r (write_jcal (calendar_of ed (lines (rest mode s 0))))
  stream_alone h w = subst (Put d e o r) (one_json (shallow levels (inner_of (entries_at ed mode s from) 0)) (alone_is _ q ∙ h) ∙ ap write_jcal (entries_start ed p)) w

  pub stream_several : t ≡ false → Put d e o r (ascii "[" ⊕ joined_by value_separator (inner_json levels (entries_at ed mode s from)) ⊕ ascii "]") → Put d e o r (write_jcal (calendar_of ed (lines (rest mode s 0))))
  stream_several h w = subst (Put d e o r) (several_json (shallow levels (inner_of (entries_at ed mode s from) 0)) (alone_is _ q ∙ h) ∙ ap write_jcal (entries_start ed p)) w
