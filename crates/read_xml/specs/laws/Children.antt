-- Laws of what specs/Children.antt defines.
--     slots_place               their slots;   slot_at_lem: it is so
--     after_at_lem              the slot after a child
--     flags_start, flags_more             the slots that must be filled: the first of the value, and of GEO and REQUEST-STATUS the second
--     parameters_at             the child `parameters` is the one of the slot 0
use Rattle.std.specs.Prelude.{◌≡◌, refl, Bool, true, false, List, [], ◌∷◌, map, ℕ, zero, suc, ◌+◌, ◌<◌, eqb, ltb, get_or, Option, None, Some}
use Rattle.std.proofs.Common.{sym, ap, subst, ◌∙◌, arith, ne_eqb, eqb-true, lt-ltb, ltb-true, le-ltb}
use Rattle.octets.specs.Ascii.{ascii}
use Rattle.octets.specs.Pick.{pick, ◌and◌, ◌or◌}
use Rattle.octets.specs.Words.{same, is_one_of}
use Rattle.octets.specs.Lists.{every}
use Rattle.octets.specs.Computing.{octets_compute}
use Rattle.names.specs.Table.{place_of}
use Rattle.names.specs.laws.Known.{by_place, unknown_list}
use Rattle.names.specs.laws.Places.{same_place}
use Rattle.schema.specs.Properties.{PropertyRow, property_names, is_listed_property}
use Rattle.schema.specs.Numbers.{property_at}
use Rattle.schema.specs.laws.Numbers.{property_place}
use Rattle.schema.specs.laws.Sets.{geo_place, request_status_place}
use Rattle.schema.specs.Property as property
use Rattle.xcal.specs.Layout.{slot_of, after_slot}
use Rattle.xcal.specs.ValueNodes.{type_elements}
use Rattle.xcal.specs.PropertyNodes.{property_slots}
use Rattle.read_xml_value.specs.Sequencing.{marked}
use Rattle.read_xml_value.specs.laws.Sequencing.{fillings, filled, slot_place}
use Rattle.read_xml.specs.Children.{geo_words, status_words, other_words, child_words, slots_of, slots_at, slot_at, after_at, flags_at}

-- ---- their names and slots

pub slots_place : (w : List ℕ) {p : ℕ} → p ≡ place_of w property_names → property_slots w ≡ slots_at p
unfolding slots_at
slots_place w e = rw (geo_place w, request_status_place w, listed, ← e)
  where
    listed : is_listed_property w ≡ (property_at (place_of w property_names)).listed
    listed = ap (λ (r : PropertyRow). r.listed) (property_place w)

-- ---- the slot of a child

-- a slot's number; of a listed property the values may stand several times
abbrev pub slotted : Bool → Option ℕ → Option (ℕ × Bool)
slotted l None = None
slotted l (Some k) = Some (k, eqb k 1 and l)

-- it is the slot of a number
abbrev pub is_slot : ℕ → Option ℕ → Bool
is_slot n None = false
is_slot n (Some k) = eqb k n

-- a property by its number: GEO, REQUEST-STATUS, or another
by_number : (P : ℕ → Type 0) (p : ℕ) → P property.GEO → P property.REQUEST-STATUS → (eqb p property.GEO ≡ false → eqb p property.REQUEST-STATUS ≡ false → P p) → P p
by_number P p a b d = go (eqb p property.GEO) refl
  where
    two : (t : Bool) → eqb p property.REQUEST-STATUS ≡ t → eqb p property.GEO ≡ false → P p
    two true h f = subst P (sym (eqb-true p property.REQUEST-STATUS h)) b
    two false h f = d f h

    go : (t : Bool) → eqb p property.GEO ≡ t → P p
    go true h = subst P (sym (eqb-true p property.GEO h)) a
    go false h = two (eqb p property.REQUEST-STATUS) refl h

geo_slot : (i : ℕ) → get_or (map (λ w. slot_of w (slots_of true false false) 0) geo_words) i None ≡ slotted false (slot_at property.GEO i)
unfolding octets_compute
geo_slot zero = refl
geo_slot (suc zero) = refl
geo_slot (suc (suc zero)) = refl
geo_slot (suc (suc (suc i))) = rw (le-ltb (suc (suc (suc i))) 3 (omega arith))

status_slot : (i : ℕ) → get_or (map (λ w. slot_of w (slots_of false true false) 0) status_words) i None ≡ slotted false (slot_at property.REQUEST-STATUS i)
unfolding octets_compute
status_slot zero = refl
status_slot (suc zero) = refl
status_slot (suc (suc zero)) = refl
status_slot (suc (suc (suc zero))) = refl
status_slot (suc (suc (suc (suc i)))) = rw (le-ltb (suc (suc (suc (suc i)))) 4 (omega arith))

abbrev other_slot : ℕ → Option ℕ
other_slot i = pick (eqb i 0) (Some 0) (pick (ltb i 16) (Some 1) None)

nonzero : (i : ℕ) → eqb (suc i) 0 ≡ false
nonzero i = ne_eqb (suc i) 0 (λ e. omega arith)

-- what is said of sixteen words, all but the first alike
sixteen : {A : Type 0} (a b d : A) (i : ℕ) → get_or (a ∷ b ∷ b ∷ b ∷ b ∷ b ∷ b ∷ b ∷ b ∷ b ∷ b ∷ b ∷ b ∷ b ∷ b ∷ b ∷ []) i d ≡ pick (eqb i 0) a (pick (ltb i 16) b d)
unfolding octets_compute
sixteen a b d zero = refl
sixteen a b d (suc zero) = refl
sixteen a b d (suc (suc zero)) = refl
sixteen a b d (suc (suc (suc zero))) = refl
sixteen a b d (suc (suc (suc (suc zero)))) = refl
sixteen a b d (suc (suc (suc (suc (suc zero))))) = refl
sixteen a b d (suc (suc (suc (suc (suc (suc zero)))))) = refl
sixteen a b d (suc (suc (suc (suc (suc (suc (suc zero))))))) = refl
sixteen a b d (suc (suc (suc (suc (suc (suc (suc (suc zero)))))))) = refl
sixteen a b d (suc (suc (suc (suc (suc (suc (suc (suc (suc zero))))))))) = refl
sixteen a b d (suc (suc (suc (suc (suc (suc (suc (suc (suc (suc zero)))))))))) = refl
sixteen a b d (suc (suc (suc (suc (suc (suc (suc (suc (suc (suc (suc zero))))))))))) = refl
sixteen a b d (suc (suc (suc (suc (suc (suc (suc (suc (suc (suc (suc (suc zero)))))))))))) = refl
sixteen a b d (suc (suc (suc (suc (suc (suc (suc (suc (suc (suc (suc (suc (suc zero))))))))))))) = refl
sixteen a b d (suc (suc (suc (suc (suc (suc (suc (suc (suc (suc (suc (suc (suc (suc zero)))))))))))))) = refl
sixteen a b d (suc (suc (suc (suc (suc (suc (suc (suc (suc (suc (suc (suc (suc (suc (suc zero))))))))))))))) = refl
sixteen a b d (suc (suc (suc (suc (suc (suc (suc (suc (suc (suc (suc (suc (suc (suc (suc (suc i)))))))))))))))) =
    rw (nonzero (suc (suc (suc (suc (suc (suc (suc (suc (suc (suc (suc (suc (suc (suc (suc i))))))))))))))), le-ltb (suc (suc (suc (suc (suc (suc (suc (suc (suc (suc (suc (suc (suc (suc (suc (suc i)))))))))))))))) 16 (omega arith))

other_slot_lem : (l : Bool) (i : ℕ) → get_or (map (λ w. slot_of w (slots_of false false l) 0) other_words) i None ≡ slotted l (other_slot i)
unfolding octets_compute
other_slot_lem l i = sixteen (Some (0, false)) (Some (1, l)) None i ∙ go (eqb i 0) (ltb i 16)
  where
    go : (a b : Bool) → pick a (Some (0, false)) (pick b (Some (1, l)) None) ≡ slotted l (pick a (Some 0) (pick b (Some 1) None))
    go true b = refl
    go false true = refl
    go false false = refl

pub slot_at_lem : (p : ℕ) (n : List ℕ) → slot_of n (slots_at p) 0 ≡ slotted (property_at p).listed (slot_at p (place_of n (child_words p)))
unfolding octets_compute slots_at
slot_at_lem p n =
    by_number (λ (q : ℕ). slot_of n (slots_at q) 0 ≡ slotted (property_at q).listed (slot_at q (place_of n (child_words q)))) p
    (slot_place n geo_words (slots_of true false false) refl ∙ geo_slot (place_of n geo_words))
    (slot_place n status_words (slots_of false true false) refl ∙ status_slot (place_of n status_words))
    (λ f h. rw (f, h) (slot_place n other_words (slots_of false false (property_at p).listed) refl ∙ other_slot_lem (property_at p).listed (place_of n other_words)))

-- there are four slots at most
abbrev small : Option ℕ → Bool
small None = true
small (Some k) = ltb k 4

slot_small : (p i : ℕ) → small (slot_at p i) ≡ true
unfolding octets_compute
slot_small p i = go (eqb p property.GEO) (eqb p property.REQUEST-STATUS) (eqb i 0) (ltb i 3) refl (ltb i 4) refl (ltb i 16)
  where
    go : (a b z x : Bool) → ltb i 3 ≡ x → (y : Bool) → ltb i 4 ≡ y → (w : Bool) →
        small (pick a (pick x (Some i) None) (pick b (pick y (Some i) None) (pick z (Some 0) (pick w (Some 1) None)))) ≡ true
    go true b z true h y k w = let l : i < 3 = ltb-true i 3 h in lt-ltb i 4 (omega arith)
    go true b z false h y k w = refl
    go false true z x h true k w = k
    go false true z x h false k w = refl
    go false false true x h y k w = refl
    go false false false x h y k true = refl
    go false false false x h y k false = refl

-- `parameters` has the slot 0
first_slot : (p i : ℕ) → is_slot 0 (slot_at p i) ≡ eqb i 0
unfolding octets_compute
first_slot p zero = by_number (λ (q : ℕ). is_slot 0 (slot_at q 0) ≡ true) p refl refl (λ f h. rw (f, h))
first_slot p (suc i) = rw (nonzero i) (go (eqb p property.GEO) (eqb p property.REQUEST-STATUS) (ltb (suc i) 3) (ltb (suc i) 4) (ltb (suc i) 16))
  where
    go : (a b x y z : Bool) → is_slot 0 (pick a (pick x (Some (suc i)) None) (pick b (pick y (Some (suc i)) None) (pick z (Some 1) None))) ≡ false
    go true b true y z = nonzero i
    go true b false y z = refl
    go false true x true z = nonzero i
    go false true x false z = refl
    go false false x y true = refl
    go false false x y false = refl

pub parameters_at : (p : ℕ) (n : List ℕ) → same n (ascii "parameters") ≡ is_slot 0 (slot_at p (place_of n (child_words p)))
unfolding octets_compute place_of
parameters_at p n =
    by_number (λ (q : ℕ). same n (ascii "parameters") ≡ eqb (place_of n (child_words q)) 0) p
    (same_place n (ascii "parameters") geo_words refl)
    (same_place n (ascii "parameters") status_words refl)
    (λ f h. rw (f, h) (same_place n (ascii "parameters") other_words refl))
    ∙ sym (first_slot p (place_of n (child_words p)))

-- ---- the slot after a child

pub after_none : (p : ℕ) (n : List ℕ) (next : ℕ) → None ≡ slot_at p (place_of n (child_words p)) → after_slot (slot_of n (slots_at p) 0) next ≡ None
after_none p n next e = rw (slot_at_lem p n, ← e)

pub after_at_lem : (p : ℕ) (n : List ℕ) {k : ℕ} (next : ℕ) → Some k ≡ slot_at p (place_of n (child_words p)) → after_slot (slot_of n (slots_at p) 0) next ≡ after_at (property_at p).listed k next
unfolding pick after_at
after_at_lem p n {k} next e =
    let h : ltb k 4 ≡ true = ap small e ∙ slot_small p (place_of n (child_words p)) in
    rw (slot_at_lem p n, ← e, h) (one (ltb k next) (eqb k 1 and (property_at p).listed))
  where
    one : (a b : Bool) → pick a None (Some (pick b k (suc k))) ≡ pick a None (pick b (Some k) (Some (k + 1)))
    one true b = refl
    one false true = refl
    one false false = let q : suc k ≡ k + 1 = omega arith in rw q

-- ---- slots that must be filled

pub flags_start : (p : ℕ) → fillings (slots_at p) [] ≡ flags_at p false false
unfolding octets_compute fillings filled slots_at
flags_start p = by_number (λ (q : ℕ). fillings (slots_at q) [] ≡ flags_at q false false) p refl refl (λ f h. rw (f, h))

-- a name that fills a slot, by its number
fills : (n : List ℕ) (ws l : List (List ℕ)) → every (λ x. is_one_of x ws) l ≡ true → is_one_of n l ≡ get_or (map (λ w. is_one_of w l) ws) (place_of n ws) false
fills n ws l a = by_place n (λ w. is_one_of w l) false ws (λ h. unknown_list n ws h l a)

geo_first : (i : ℕ) → get_or (map (λ w. is_one_of w (ascii "latitude" ∷ [])) geo_words) i false ≡ is_slot 1 (slot_at property.GEO i)
unfolding octets_compute
geo_first zero = refl
geo_first (suc zero) = refl
geo_first (suc (suc zero)) = refl
geo_first (suc (suc (suc i))) = rw (le-ltb (suc (suc (suc i))) 3 (omega arith))

geo_second : (i : ℕ) → get_or (map (λ w. is_one_of w (ascii "longitude" ∷ [])) geo_words) i false ≡ is_slot 2 (slot_at property.GEO i)
unfolding octets_compute
geo_second zero = refl
geo_second (suc zero) = refl
geo_second (suc (suc zero)) = refl
geo_second (suc (suc (suc i))) = rw (le-ltb (suc (suc (suc i))) 3 (omega arith))

status_first : (i : ℕ) → get_or (map (λ w. is_one_of w (ascii "code" ∷ [])) status_words) i false ≡ is_slot 1 (slot_at property.REQUEST-STATUS i)
unfolding octets_compute
status_first zero = refl
status_first (suc zero) = refl
status_first (suc (suc zero)) = refl
status_first (suc (suc (suc zero))) = refl
status_first (suc (suc (suc (suc i)))) = rw (le-ltb (suc (suc (suc (suc i)))) 4 (omega arith))

status_second : (i : ℕ) → get_or (map (λ w. is_one_of w (ascii "description" ∷ [])) status_words) i false ≡ is_slot 2 (slot_at property.REQUEST-STATUS i)
unfolding octets_compute
status_second zero = refl
status_second (suc zero) = refl
status_second (suc (suc zero)) = refl
status_second (suc (suc (suc zero))) = refl
status_second (suc (suc (suc (suc i)))) = rw (le-ltb (suc (suc (suc (suc i)))) 4 (omega arith))

other_first : (i : ℕ) → get_or (map (λ w. is_one_of w type_elements) other_words) i false ≡ is_slot 1 (other_slot i)
unfolding octets_compute
other_first i = sixteen false true false i ∙ go (eqb i 0) (ltb i 16)
  where
    go : (a b : Bool) → pick a false (pick b true false) ≡ is_slot 1 (pick a (Some 0) (pick b (Some 1) None))
    go true b = refl
    go false true = refl
    go false false = refl

flags_at_slot : (p : ℕ) (n : List ℕ) (f g : Bool) → marked (slots_at p) n (flags_at p f g) ≡
    flags_at p (is_slot 1 (slot_at p (place_of n (child_words p))) or f) (is_slot 2 (slot_at p (place_of n (child_words p))) or g)
unfolding octets_compute marked slots_at
flags_at_slot p n f g =
    by_number (λ (q : ℕ). marked (slots_at q) n (flags_at q f g) ≡ flags_at q (is_slot 1 (slot_at q (place_of n (child_words q))) or f) (is_slot 2 (slot_at q (place_of n (child_words q))) or g)) p
    (rw (fills n geo_words (ascii "latitude" ∷ []) refl, geo_first (place_of n geo_words), fills n geo_words (ascii "longitude" ∷ []) refl, geo_second (place_of n geo_words)))
    (rw (fills n status_words (ascii "code" ∷ []) refl, status_first (place_of n status_words), fills n status_words (ascii "description" ∷ []) refl, status_second (place_of n status_words)))
    (λ h i. rw (h, i, fills n other_words type_elements refl, other_first (place_of n other_words)))

pub flags_more : (p : ℕ) (n : List ℕ) (f g : Bool) {k : ℕ} → Some k ≡ slot_at p (place_of n (child_words p)) → marked (slots_at p) n (flags_at p f g) ≡ flags_at p (eqb k 1 or f) (eqb k 2 or g)
flags_more p n f g e = flags_at_slot p n f g ∙ ap (λ (o : Option ℕ). flags_at p (is_slot 1 o or f) (is_slot 2 o or g)) (sym e)
