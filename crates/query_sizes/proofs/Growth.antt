-- What a step of typing makes at most, and what it adds to the aggregates.
use Rattle.std.proofs.Common.{◌≡◌, ℕ, ◌+◌, ◌*◌, ◌≤◌, Bool, true, false, List, [], ◌∷◌, ◌++◌, length, length-append, Ok, Err, refl, sym, ap, ◌∙◌, arith}
use Rattle.query_types.specs.declared.refusal.TypeKind.{TypeKind}
use Rattle.typed_trees.specs.declared.typed.Aggregate.{Aggregate}
use Rattle.query_types.specs.Outcomes.{Outcome, refuse, refuse_if, and_then, Collecting, ◌>>=◌, pure, lift}
use Rattle.query_sizes.specs.Sizes.{aggregate_nodes}
use Rattle.query_sizes.proofs.Totals.{total, total_more}

-- ---- outcomes

pub ok_same : {A : Type 0} (a b : A) → ◌≡◌ {A = Outcome A} (Ok a) (Ok b) → a ≡ b
ok_same a b h = cc

pub then_ok : {A B : Type 0} (o : Outcome A) (f : A → Outcome B) (b : B) → and_then o f ≡ Ok b → (a : A) × (o ≡ Ok a) × (f a ≡ Ok b)
then_ok (Ok a) f b h = (a, refl, h)
then_ok (Err d) f b h = absurd (cc)

pub not_refused : {A : Type 0} (c : Bool) (kind : TypeKind) (at : ℕ) (o : Outcome A) (a : A) → refuse_if c kind at o ≡ Ok a → (c ≡ false) × (o ≡ Ok a)
not_refused true kind at o a h = absurd (cc)
not_refused false kind at o a h = (refl, h)

-- whatever is the outcome weighs at most n
pub record Holds {A : Type 0} (n : ℕ) (w : A → ℕ) (o : Outcome A) : Type 0 where
  pub most : (a : A) → o ≡ Ok a → w a ≤ n

pub holds_value : {A : Type 0} (n : ℕ) (w : A → ℕ) (a : A) → w a ≤ n → Holds n w (Ok a)
holds_value n w a h = record { most = λ b e. let same : w a ≡ w b = ap w (ok_same a b e) in omega (arith, h, same) }

pub holds_none : {A : Type 0} (n : ℕ) (w : A → ℕ) (kind : TypeKind) (at : ℕ) → Holds n w (refuse kind at)
holds_none n w kind at = record { most = λ b e. absurd (cc) }

pub holds_if : {A : Type 0} {n : ℕ} {w : A → ℕ} {o : Outcome A} (c : Bool) (kind : TypeKind) (at : ℕ) → Holds n w o → Holds n w (refuse_if c kind at o)
holds_if {o = o} c kind at h = record { most = λ b e. h.most b (not_refused c kind at o b e).1 }

pub holds_then : {A B : Type 0} {n : ℕ} {w : B → ℕ} {f : A → Outcome B} (o : Outcome A) → ((a : A) → Holds n w (f a)) → Holds n w (and_then o f)
holds_then {f = f} o h = record { most = λ b e. let x = then_ok o f b e in (h x.0).most b x.2 }

-- ---- with the aggregates so far

-- the nodes of their arguments
abbrev pub arguments : List Aggregate → ℕ
arguments met = total aggregate_nodes met

-- From the aggregates before to those after: a value of v nodes and the arguments that came with it take at most n nodes, four times the
-- aggregates that came is at most c, and none came where it is still.
pub record Growth (still : Bool) (n c v : ℕ) (before after : List Aggregate) : Type 0 where
  pub nodes : v + arguments after ≤ n + arguments before
  pub count : 4 * length after ≤ c + 4 * length before
  pub same : still ≡ true → length after ≡ length before

pub record Grows {A : Type 0} (still : Bool) (n : ℕ) (w : A → ℕ) (c : ℕ) (p : Collecting A) : Type 0 where
  pub most : (before after : List Aggregate) (a : A) → p before ≡ Ok (a, after) → Growth still n c (w a) before after

-- two pairs that are one
first_same : {A : Type 0} (a b : A) (before after : List Aggregate) → ◌≡◌ {A = Outcome (A × List Aggregate)} (Ok (a, before)) (Ok (b, after)) → (a ≡ b) × (before ≡ after)
first_same {A = A} a b before after h =
    let e : ◌≡◌ {A = A × List Aggregate} (a, before) (b, after) = ok_same (a, before) (b, after) h in
    (ap (λ (r : A × List Aggregate). r.0) e, ap (λ (r : A × List Aggregate). r.1) e)

pub grows_pure : {A : Type 0} (still : Bool) (n : ℕ) (w : A → ℕ) (a : A) → w a ≤ n → Grows still n w 0 (pure a)
grows_pure still n w a h = record {
  most = λ before after b e.
      let x = first_same a b before after e in
      let value : w a ≡ w b = ap w x.0 in
      let nodes : arguments before ≡ arguments after = ap arguments x.1 in
      let count : length before ≡ length after = ap length x.1 in
      record { nodes = omega (arith, h, value, nodes); count = omega (arith, count); same = λ s. sym count };
}

pub grows_lift : {A : Type 0} {n : ℕ} {w : A → ℕ} {o : Outcome A} (still : Bool) → Holds n w o → Grows still n w 0 (lift o)
grows_lift {n = n} {w = w} {o = o} still h = record {
  most = λ before after b e.
      let x = then_ok o (λ a. Ok (a, before)) (b, after) e in
      (grows_pure still n w x.0 (h.most x.0 x.1)).most before after b x.2;
}

pub grows_then : {A B : Type 0} {still : Bool} {n : ℕ} {u : A → ℕ} {w : B → ℕ} {c d : ℕ} {p : Collecting A} {q : A → Collecting B} → Grows still n u c p → ((a : A) → Grows still (u a) w d (q a)) → Grows still n w (c + d) (p >>= q)
grows_then {p = p} {q = q} h g = record {
  most = λ before after b e.
      let x = then_ok (p before) (λ r. q r.0 r.1) (b, after) e in
      let y = h.most before x.0.1 x.0.0 x.1 in
      let z = (g x.0.0).most x.0.1 after b x.2 in
      let y_nodes = y.nodes in
      let y_count = y.count in
      let z_nodes = z.nodes in
      let z_count = z.count in
      record { nodes = omega (arith, y_nodes, z_nodes); count = omega (arith, y_count, z_count); same = λ s. z.same s ∙ y.same s };
}

-- with k nodes more, and within wider bounds
pub grows_with : {A : Type 0} {still : Bool} {n : ℕ} {w : A → ℕ} {c : ℕ} {p : Collecting A} (k m d : ℕ) → k + n ≤ m → c ≤ d → Grows still n w c p → Grows still m (λ a. k + w a) d p
grows_with k m d room more h = record {
  most = λ before after a e.
      let y = h.most before after a e in
      let y_nodes = y.nodes in
      let y_count = y.count in
      record { nodes = omega (arith, y_nodes, room); count = omega (arith, y_count, more); same = y.same };
}

pub grows_within : {A : Type 0} {still : Bool} {n : ℕ} {w : A → ℕ} {c : ℕ} {p : Collecting A} (m d : ℕ) → n ≤ m → c ≤ d → Grows still n w c p → Grows still m w d p
grows_within m d room more h = record {
  most = λ before after a e.
      let y = h.most before after a e in
      let y_nodes = y.nodes in
      let y_count = y.count in
      record { nodes = omega (arith, y_nodes, room); count = omega (arith, y_count, more); same = y.same };
}

-- where no aggregate may stand
pub grows_still : {A : Type 0} {n : ℕ} {w : A → ℕ} {c : ℕ} {p : Collecting A} (still : Bool) → Grows true n w c p → Grows still n w 0 p
grows_still still h = record {
  most = λ before after a e.
      let y = h.most before after a e in
      let same : length after ≡ length before = y.same refl in
      record { nodes = y.nodes; count = omega (arith, same); same = λ s. same };
}

pub grows_if : {A : Type 0} {still : Bool} {n : ℕ} {w : A → ℕ} {c : ℕ} {p : Collecting A} (b : Bool) (kind : TypeKind) (at : ℕ) → Grows still n w c p → Grows still n w c (λ before. refuse_if b kind at (p before))
grows_if {p = p} b kind at h = record { most = λ before after a e. h.most before after a (not_refused b kind at (p before) (a, after) e).1 }

-- a value beside one more aggregate, where one may stand
pub grows_met : {A : Type 0} (still : Bool) (kind : TypeKind) (at n : ℕ) (w : A → ℕ) (a : List Aggregate → A) (x : Aggregate) → ((before : List Aggregate) → w (a before) + aggregate_nodes x ≤ n) → Grows still n w 4 (λ before. refuse_if still kind at (Ok (a before, before ++ x ∷ [])))
grows_met still kind at n w a x h = record {
  most = λ before after b e.
      let free = not_refused still kind at (Ok (a before, before ++ x ∷ [])) (b, after) e in
      let is = first_same (a before) b (before ++ x ∷ []) after free.1 in
      let value : w (a before) ≡ w b = ap w is.0 in
      let nodes : arguments (before ++ x ∷ []) ≡ arguments after = ap arguments is.1 in
      let count : length (before ++ x ∷ []) ≡ length after = ap length is.1 in
      record {
        nodes = omega (arith, h before, value, nodes, total_more aggregate_nodes before x);
        count = omega (arith, count, length-append before (x ∷ []));
        same = λ s. let other : still ≡ false = free.0 in absurd (cc);
      };
}
