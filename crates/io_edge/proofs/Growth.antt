-- How what a sink tells grows by one text after another.
use Rattle.std.proofs.Common.{◌≡◌, ◌+◌, ◌-◌, ◌≤◌, ℕ, [], ◌∷◌, ◌++◌, List, ap, sym, ◌∙◌, subst, arith, drop, get_or, length, take, min}
use Rattle.std.specs.Prelude.{Option}
use Rattle.std.specs.Borrow.{Bor}
use Rattle.std.specs.Io.KnownBytes.{Appends}
use Rattle.std.proofs.KnownBytes.{Appends-trans}
use Rattle.std.proofs.Math.Seq.{take-append-add}
use Rattle.std.proofs.Math.Nat.{min-le_right}
use Rattle.std.proofs.lemmas.List.{take-append-le, take_all, take_min}
use Rattle.io_edge.specs.Sinks.{AppendsPrefix, concatenated}

-- a text whole, then a prefix of the next: a prefix of the two and more
pub Appends-prefix : (a b c : Option (List ℕ)) (p q r : List ℕ) → Appends a b p → AppendsPrefix b c q → AppendsPrefix a c (p ++ (q ++ r))
Appends-prefix a b c p q r whole h =
    let k = min h.count (length q) in
    let cut : take h.count q ≡ take k (q ++ r) = sym (take-append-le k q r (min-le_right h.count (length q)) ∙ take_min h.count q) in
    let same : p ++ take h.count q ≡ take (length p + k) (p ++ (q ++ r)) = ap (λ (l : List ℕ). p ++ l) cut ∙ sym (take-append-add p (q ++ r) k) in
    record { count = length p + k; appended = subst (Appends a c) same (Appends-trans a b c _ _ whole h.appended) }

-- the first of some texts, and then the others
pub concatenated-first : (xs : List (Bor (List ℕ))) (d : Bor (List ℕ)) → 1 ≤ length xs → concatenated xs ≡ (get_or xs 0 d).now ++ concatenated (take (length xs - 1) (drop 1 xs))
concatenated-first [] d h = absurd (omega arith)
concatenated-first (x ∷ xs) d h = ap (λ (l : List (Bor (List ℕ))). x.now ++ concatenated l) (sym (take_all (length (x ∷ xs) - 1) xs (omega arith)))
