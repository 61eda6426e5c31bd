-- The first of some findings comes before each of them.
use Rattle.std.proofs.Common.{◌≡◌, ℕ, ◌<◌, ◌≤◌, Bool, true, false, ◌||◌, ◌&&◌, List, [], ◌∷◌, refl, sym, subst, ◌⊎◌, inl, inr, ⊎_elim, arith}
use Rattle.std.specs.Prelude.{Some, None, All, Contains, nat_lt, ◌==◌}
use Rattle.std.proofs.lemmas.List.Elements.{All-nil, All-cons, Contains-append_right}
use Rattle.sql_types.specs.declared.finding.Finding.{Finding}
use Rattle.sql_types.specs.Findings.{rank, IsNotAfter, IsFirst, comes_before, first_from, first_of}

not_after_refl : (p : Finding) → IsNotAfter p p
not_after_refl p = inr (refl, omega arith)

not_after_trans : (p q r : Finding) → IsNotAfter p q → IsNotAfter q r → IsNotAfter p r
not_after_trans p q r h g = trans_ℕ p.at q.at r.at (rank p.kind) (rank q.kind) (rank r.kind) h g
  where
    trans_ℕ : (a b c x y z : ℕ) → (a < b) ⊎ ((a ≡ b) × (x ≤ y)) → (b < c) ⊎ ((b ≡ c) × (y ≤ z)) → (a < c) ⊎ ((a ≡ c) × (x ≤ z))
    trans_ℕ a b c x y z h g = grind arith

comes_before-true : (p q : Finding) → comes_before p q ≡ true → IsNotAfter p q
comes_before-true p q h = by_numbers p.at q.at (rank p.kind) (rank q.kind) h
  where
    by_numbers : (a b x y : ℕ) → (nat_lt a b || (a == b && nat_lt x y)) ≡ true → (a < b) ⊎ ((a ≡ b) × (x ≤ y))
    by_numbers a b x y h = grind arith

comes_before-false : (p q : Finding) → comes_before p q ≡ false → IsNotAfter q p
comes_before-false p q h = by_numbers p.at q.at (rank p.kind) (rank q.kind) h
  where
    by_numbers : (a b x y : ℕ) → (nat_lt a b || (a == b && nat_lt x y)) ≡ false → (b < a) ⊎ ((b ≡ a) × (y ≤ x))
    by_numbers a b x y h = grind arith

-- the first of one finding and some more
record Least (b : Finding) (xs : List Finding) : Type 0 where
  first : Finding
  is : first_from (Some b) xs ≡ Some first
  among : (first ≡ b) ⊎ Contains xs first
  before : IsNotAfter first b
  all : All (IsNotAfter first) xs

here : (x : Finding) (xs : List Finding) → Contains (x ∷ xs) x
here x xs = (0, omega arith, refl)

there : (x y : Finding) (xs : List Finding) → Contains xs y → Contains (x ∷ xs) y
there x y xs h = Contains-append_right (x ∷ []) xs y h

least : (b : Finding) (xs : List Finding) → Least b xs
least b [] = record { first = b; is = refl; among = inl refl; before = not_after_refl b; all = All-nil (IsNotAfter b) }
least b (x ∷ xs) = by_test (comes_before x b) refl (least x xs) (least b xs)
  where
    by_test : (c : Bool) → comes_before x b ≡ c → Least x xs → Least b xs → Least b (x ∷ xs)
    by_test true e l m = record {
      first = l.first;
      is = rw e l.is;
      among = inr (⊎_elim (λ y. subst (Contains (x ∷ xs)) (sym y) (here x xs)) (λ y. there x l.first xs y) l.among);
      before = not_after_trans l.first x b l.before (comes_before-true x b e);
      all = All-cons (IsNotAfter l.first) x xs l.before l.all;
    }
    by_test false e l m = record {
      first = m.first;
      is = rw e m.is;
      among = ⊎_elim (λ y. inl y) (λ y. inr (there x m.first xs y)) m.among;
      before = m.before;
      all = All-cons (IsNotAfter m.first) x xs (not_after_trans m.first b x m.before (comes_before-false x b e)) m.all;
    }

pub first_of-none : (xs : List Finding) → first_of xs ≡ None → xs ≡ []
unfolding first_of
first_of-none [] h = refl
first_of-none (x ∷ xs) h = let l = least x xs in let e = l.is in absurd (cc)

pub first_of-some : (xs : List Finding) (p : Finding) → first_of xs ≡ Some p → IsFirst xs p
unfolding first_of
first_of-some [] p h = absurd (cc)
first_of-some (x ∷ xs) p h =
    let l = least x xs in
    let e = l.is in
    let same : l.first ≡ p = cc in
    subst (IsFirst (x ∷ xs)) same
    (⊎_elim (λ y. subst (Contains (x ∷ xs)) (sym y) (here x xs)) (λ y. there x l.first xs y) l.among, All-cons (IsNotAfter l.first) x xs l.before l.all)
