-- Laws of specs/Sent.antt.
--     nothing_sent     where nothing was written, it is some first bytes of anything
--     front_sent       where some first bytes were written, an error is what comes of it
--     front_of_more    some first bytes of a are some of a and b
--     front_behind     behind a, some first bytes of b are some of both;   sent_behind: behind a, b that is sent
--     grows_none, grows_on, sent_grows     what grows: nothing written, more written, bytes sent
use Rattle.std.specs.Prelude.{◌≡◌, refl, ℕ, ◌+◌, ◌≤◌, min, List, ◌++◌, Option, length, take, [], Result, Ok, Err, IsErr}
use Rattle.std.proofs.Common.{arith, subst}
use Rattle.std.proofs.lemmas.Bool.{false≢true}
use Rattle.std.proofs.KnownBytes.{Appends-nil, Appends-trans}
use Rattle.std.proofs.lemmas.List.{take_min, take-append-le, take_at, drop_at}
use Rattle.std.specs.Io.KnownBytes.{Appends}
use Rattle.streams.specs.Sent.{AppendsFront, Sends, Grows}
use lib.Seq.{take-add}

pub nothing_sent : (p : Option (List ℕ)) (bs : List ℕ) → AppendsFront p p bs
nothing_sent p bs = (0, Appends-nil p)

pub front_sent : {A E : Type 0} (p q : Option (List ℕ)) (r : Result A E) (bs : List ℕ) → IsErr r → AppendsFront p q bs → Sends p q r bs
front_sent p q (Ok x) bs e h = absurd (false≢true e)
front_sent p q (Err x) bs e h = h

pub front_of_more : (p q : Option (List ℕ)) (a b : List ℕ) → AppendsFront p q a → AppendsFront p q (a ++ b)
front_of_more p q a b (n, h) =
    let k : min n (length a) ≤ length a = omega arith in
    let e : take n a ≡ take (min n (length a)) (a ++ b) = cc (take-append-le (min n (length a)) a b k, take_min n a) in
    (min n (length a), subst (Appends p q) e h)

pub front_behind : (p q z : Option (List ℕ)) (a b : List ℕ) → Appends p q a → AppendsFront q z b → AppendsFront p z (a ++ b)
front_behind p q z a b h (n, k) =
    let e : a ++ take n b ≡ take (length a + n) (a ++ b) = cc (take-add (length a) n (a ++ b), take_at a b (length a) refl, drop_at a b (length a) refl) in
    (length a + n, subst (Appends p z) e (Appends-trans p q z a (take n b) h k))

pub sent_behind : {A E : Type 0} (r : Result A E) (p q z : Option (List ℕ)) (a b : List ℕ) → Appends p q a → Sends q z r b → Sends p z r (a ++ b)
sent_behind (Ok x) p q z a b h k = Appends-trans p q z a b h k
sent_behind (Err e) p q z a b h k = front_behind p q z a b h k

pub grows_none : (p : Option (List ℕ)) → Grows p p
grows_none p = ([], Appends-nil p)

pub grows_on : (p q z : Option (List ℕ)) → Grows p q → Grows q z → Grows p z
grows_on p q z (a, h) (b, k) = (a ++ b, Appends-trans p q z a b h k)

pub sent_grows : {A E : Type 0} (p q : Option (List ℕ)) (r : Result A E) (bs : List ℕ) → Sends p q r bs → Grows p q
sent_grows p q (Ok x) bs h = (bs, h)
sent_grows p q (Err e) bs (n, h) = (take n bs, h)
