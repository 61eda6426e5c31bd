-- What a sink tells after some of a text, where the rest does not follow.
use Rattle.std.proofs.Common.{◌≡◌, ℕ, List, [], ◌++◌, sym, subst}
use Rattle.std.specs.Prelude.{Option, Result, Ok, Err, OnErr, OnOk}
use Rattle.std.specs.Io.KnownBytes.{Appends}
use Rattle.std.proofs.KnownBytes.{Appends-nil}
use Rattle.io_edge.specs.Sinks.{AppendsPrefix}
use Rattle.io_edge.proofs.Growth.{Appends-prefix}

-- a text whole: a prefix of it and more
pub prefix_whole : (a b : Option (List ℕ)) (p r text : List ℕ) → text ≡ p ++ r → Appends a b p → AppendsPrefix a b text
prefix_whole a b p r text is whole = subst (AppendsPrefix a b) (sym is) (Appends-prefix a b b p [] r whole (record { count = 0; appended = Appends-nil b }))

-- a text whole, then a prefix of the next: a prefix of the two and more
pub prefix_next : (a b c : Option (List ℕ)) (p q r text : List ℕ) → text ≡ p ++ (q ++ r) → Appends a b p → AppendsPrefix b c q → AppendsPrefix a c text
prefix_next a b c p q r text is whole next = subst (AppendsPrefix a c) (sym is) (Appends-prefix a b c p q r whole next)

-- what holds anyhow holds where a call fails
pub on_err : {T E : Type 0} (r : Result T E) (P : Type 0) → P → OnErr r P
on_err (Ok x) P h = tt
on_err (Err e) P h = h

-- a prefix of a text: one of a longer text
pub prefix_first : (a b : Option (List ℕ)) (p r text : List ℕ) → text ≡ p ++ r → AppendsPrefix a b p → AppendsPrefix a b text
prefix_first a b p r text is first = prefix_next a a b [] p r text is (Appends-nil a) first

pub map_err : {T E : Type 0} (r : Result T E) (P Q : Type 0) → (P → Q) → OnErr r P → OnErr r Q
map_err (Ok x) P Q f h = tt
map_err (Err e) P Q f h = f h

pub map_ok : {T E : Type 0} (r : Result T E) (P Q : Type 0) → (P → Q) → OnOk r P → OnOk r Q
map_ok (Ok x) P Q f h = f h
map_ok (Err e) P Q f h = tt
