-- The first length that passes the limit is far from the number at which products are kept.
use Rattle.std.proofs.Common.{◌≡◌, ℕ, ◌+◌, ◌*◌, ◌^◌, ◌≤◌, min, Bool, true, false, List, [], ◌∷◌, ◌++◌, length, refl, sym, ap, ◌∙◌, subst, arith, nat_lt, if◌then◌else◌, Option, Some, None, Ok, Err, ◌⊎◌, inl, inr}
use Rattle.std.specs.Prelude.{All}
use Rattle.std.specs.Str.{bytes_eq}
use Rattle.std.proofs.Math.Nat.{mul-le-mul}
use Rattle.std.proofs.lemmas.Bool.Decides.{nat_tests}
use Rattle.std.proofs.lemmas.List.Elements.{All-head, All-tail}
use Rattle.programs.specs.declared.op.Size.{Size}
use Rattle.programs.specs.declared.op.Size.TheVariants.{Number, Of}
use Rattle.programs.specs.declared.op.Operand.{Operand}
use Rattle.programs.specs.declared.op.Operand.TheVariants as operand
use Rattle.programs.specs.declared.op.Op.{Op}
use Rattle.programs.specs.Families.{Family, family, Load, Persist, Range, Cross, Zip, Project, Upsert, Gather, Scatter, Rank, Materialize, Break, Fold, Order, Pair, BitShift}
use Rattle.programs.specs.declared.op.ProgramKind.{ProgramKind}
use Rattle.programs.specs.declared.op.ProgramKind.TheVariants.{TooManyStatements}
use Rattle.programs.specs.declared.op.Statement.{Statement}
use Rattle.programs.specs.Mentions.{Label, is_persist}
use Rattle.programs.specs.Outlines.{Outline, Shapes, no_outline, len_in, known_outline}
use Rattle.programs.specs.MadeOutlines.{made_by, made_outline, size_in, capped, pair_len_in, operand_len_in}
use Rattle.programs.specs.Check.{Known, fault, Checked, learn, fault_of, after_fault, then_check, check_from, at_start, names_result, shape_of, limit_from, limit_of, with_result, with_vector}
use Rattle.programs.specs.Laws.{SizeFits, SizesFitBy, SizesFit, LimitLaw}
use Rattle.programs.proofs.ShapeLaws.{none_of_if}

-- ---- lengths

longer : (n : ℕ) → n ≤ 2 ^ 22 → n ≤ 2 ^ 44
longer n h = omega arith

size_short : (V : Shapes) (size : Size) → ((a : Label) → len_in V a ≤ 2 ^ 22) → SizeFits size → size_in V size ≤ 2 ^ 44
size_short V (Number n) h s = omega (arith, s)
size_short V (Of a) h s = longer (len_in V a) (h a)

pair_short : (V : Shapes) (x y : Operand) → ((a : Label) → len_in V a ≤ 2 ^ 22) → pair_len_in V x y ≤ 2 ^ 44
pair_short V (operand.Column a p) (operand.Column b q) h = omega (arith, h a, h b)
pair_short V (operand.Column a p) (operand.Number z) h = longer (len_in V a) (h a)
pair_short V (operand.Number z) (operand.Column b q) h = longer (len_in V b) (h b)
pair_short V (operand.Number z) (operand.Number w) h = omega arith

operand_short : (V : Shapes) (x : Operand) → ((a : Label) → len_in V a ≤ 2 ^ 22) → operand_len_in V x ≤ 2 ^ 44
operand_short V (operand.Column a p) h = longer (len_in V a) (h a)
operand_short V (operand.Number z) h = omega arith

product_short : (m n : ℕ) → m ≤ 2 ^ 22 → n ≤ 2 ^ 22 → capped (m * n) ≤ 2 ^ 44
product_short m n h k = let p : m * n ≤ 2 ^ 22 * 2 ^ 22 = mul-le-mul h k in omega (arith, p)

zip_short : (m n : ℕ) → m ≤ 2 ^ 22 → min m n ≤ 2 ^ 44
zip_short m n h = omega (arith, h)

made_short : (T V : Shapes) (f : Family) → ((t : Label) → len_in T t ≤ 2 ^ 22) → ((a : Label) → len_in V a ≤ 2 ^ 22) → SizesFitBy f → (made_by T V f).len ≤ 2 ^ 44
made_short T V (Load t) g h s = longer _ (g t)
made_short T V (Persist a) g h s = omega arith
made_short T V (Range size p control) g h s = size_short V size h s
made_short T V (Cross a p b q) g h s = product_short _ _ (h a) (h b)
made_short T V (Zip a b) g h s = zip_short _ _ (h a)
made_short T V (Project a p q) g h s = longer _ (h a)
made_short T V (Upsert a p b q) g h s = longer _ (h a)
made_short T V (Gather a b pos) g h s = longer _ (h b)
made_short T V (Scatter a size b pos) g h s = size_short V size h s
made_short T V (Rank kind r) g h s = longer _ (h r.a)
made_short T V (Materialize a) g h s = longer _ (h a)
made_short T V (Break a) g h s = longer _ (h a)
made_short T V (Fold kind f) g h s = longer _ (h f.a)
made_short T V (Order a mark out keys) g h s = longer _ (h a)
made_short T V (Pair kind p) g h s = pair_short V p.x p.y h
made_short T V (BitShift x by out) g h s = operand_short V x h

-- ---- one outline more

limit_end : (j : ℕ) (xs : List Outline) (o : Outline) → limit_from j xs ≡ None → limit_from j (xs ++ o ∷ []) ≡ (if nat_lt (2 ^ 22) o.len then Some (j + length xs, o.len) else None)
limit_end j [] o e = ap (λ (k : ℕ). if nat_lt (2 ^ 22) o.len then Some (k, o.len) else None) (omega arith)
limit_end j (x ∷ xs) o e =
    let r = none_of_if (nat_lt (2 ^ 22) x.len) (j, x.len) (limit_from (j + 1) xs) e in
    rw r.0 (limit_end (j + 1) xs o r.1 ∙ ap (λ (k : ℕ). if nat_lt (2 ^ 22) o.len then Some (k, o.len) else None) (omega arith))

limit_kept : (j : ℕ) (xs : List Outline) (o : Outline) (x : ℕ × ℕ) → limit_from j xs ≡ Some x → limit_from j (xs ++ o ∷ []) ≡ Some x
limit_kept j [] o x e = absurd cc
limit_kept j (y ∷ xs) o x e = by (nat_lt (2 ^ 22) y.len) e (λ h. limit_kept (j + 1) xs o x h)
  where
    by : (b : Bool) → (if b then Some (j, y.len) else limit_from (j + 1) xs) ≡ Some x → (limit_from (j + 1) xs ≡ Some x → limit_from (j + 1) (xs ++ o ∷ []) ≡ Some x) → (if b then Some (j, y.len) else limit_from (j + 1) (xs ++ o ∷ [])) ≡ Some x
    by true h rest = h
    by false h rest = rest h

-- no length passes the limit so far; or one does, and the first such is exact
pub record Small (known : Known) : Type 0 where
  pub none : limit_of known.shape ≡ None
  pub each : (a : Label) → len_in known.vectors a ≤ 2 ^ 22

pub record Passed (known : Known) : Type 0 where
  pub place : ℕ
  pub len : ℕ
  pub at : limit_of known.shape ≡ Some (place, len)
  pub exact : len ≤ 2 ^ 44

within : (n : ℕ) → nat_lt (2 ^ 22) n ≡ false → n ≤ 2 ^ 22
within n e = grind (arith, nat_tests)

vector_more : (known : Known) (n : Label) (o : Outline) → o.len ≤ 2 ^ 44 → Small known → Small (with_vector known n o) ⊎ Passed (with_vector known n o)
vector_more known n o short small = by (nat_lt (2 ^ 22) o.len) refl
  where
    each : o.len ≤ 2 ^ 22 → (a : Label) → len_in (with_vector known n o).vectors a ≤ 2 ^ 22
    each h a = named (bytes_eq n a)
      where
        named : (b : Bool) → (known_outline (if b then Some o else known.vectors a)).len ≤ 2 ^ 22
        named true = h
        named false = small.each a

    by : (b : Bool) → nat_lt (2 ^ 22) o.len ≡ b → Small (with_vector known n o) ⊎ Passed (with_vector known n o)
    by true e = inr (record { place = 1 + length known.shape; len = o.len; at = limit_end 1 known.shape o small.none ∙ ap (λ (b : Bool). if b then Some (1 + length known.shape, o.len) else None) e; exact = short })
    by false e = inl (record { none = limit_end 1 known.shape o small.none ∙ ap (λ (b : Bool). if b then Some (1 + length known.shape, o.len) else None) e; each = each (within o.len e) })

held_next : (T : Shapes) (known : Known) (n : Label) (op : Op) → ((t : Label) → len_in T t ≤ 2 ^ 22) → SizesFit op → Small known ⊎ Passed known → Small (learn T known n op) ⊎ Passed (learn T known n op)
held_next T known n op g s h = by (is_persist op) h
  where
    made : Outline
    made = made_outline T known.vectors op

    by : (b : Bool) → Small known ⊎ Passed known → Small (if b then with_result known n else with_vector known n made) ⊎ Passed (if b then with_result known n else with_vector known n made)
    by true (inl small) = inl (record { none = limit_end 1 known.shape no_outline small.none; each = small.each })
    by true (inr p) = inr (record { place = p.place; len = p.len; at = limit_kept 1 known.shape no_outline (p.place, p.len) p.at; exact = p.exact })
    by false (inl small) = vector_more known n made (made_short T known.vectors (family op) g small.each s) small
    by false (inr p) = inr (record { place = p.place; len = p.len; at = limit_kept 1 known.shape made (p.place, p.len) p.at; exact = p.exact })

held_from : (T : Shapes) (statements : List Statement) (known after : Known) → ((t : Label) → len_in T t ≤ 2 ^ 22) → All (λ s. SizesFit s.op) statements → Small known ⊎ Passed known → check_from T statements known ≡ Ok after → Small after ⊎ Passed after
held_from T [] known after g each h e = let same : known ≡ after = cc in subst (λ (k : Known). Small k ⊎ Passed k) same h
held_from T (s ∷ rest) known after g each h e =
    go (fault_of T known s.name s.op) (λ c. held_from T rest (learn T known s.name s.op) after g (All-tail (λ t. SizesFit t.op) s rest each) (held_next T known s.name s.op g (All-head (λ t. SizesFit t.op) s rest each) h) c) e
  where
    go : (fault : Option ProgramKind) → (check_from T rest (learn T known s.name s.op) ≡ Ok after → Small after ⊎ Passed after) → then_check (after_fault known (learn T known s.name s.op) fault) (check_from T rest) ≡ Ok after → Small after ⊎ Passed after
    go None later c = later c
    go (Some kind) later c = absurd cc

at_most : (known : Known) (k n : ℕ) → limit_of known.shape ≡ Some (k, n) → Small known ⊎ Passed known → n ≤ 2 ^ 44
at_most known k n e (inl small) = absurd (clash (limit_of known.shape) small.none e)
  where
    clash : (o : Option (ℕ × ℕ)) → o ≡ None → o ≡ Some (k, n) → ⊥
    clash None h l = cc
    clash (Some x) h l = cc
at_most known k n e (inr p) = subst (λ (m : ℕ). m ≤ 2 ^ 44) (second (p.place, p.len) (k, n) (sym p.at ∙ e)) p.exact
  where
    second : (x y : ℕ × ℕ) → Some x ≡ Some y → x.1 ≡ y.1
    second x y h = let same : x ≡ y = cc in ap (λ (z : ℕ × ℕ). z.1) same

shape_is : (named : Bool) (r : Checked) (shape : List Outline) → shape_of named r ≡ Ok shape → (known : Known) × (r ≡ Ok known) × (known.shape ≡ shape)
shape_is named (Err f) shape e = absurd cc
shape_is true (Ok known) shape e = (known, refl, cc)
shape_is false (Ok known) shape e = absurd cc

pub limit_law : LimitLaw
limit_law T program shape k n g each c l = by (nat_lt 65536 (length program)) c
  where
    by : (b : Bool) → (if b then Err (fault 65537 TooManyStatements) else shape_of (names_result program) (check_from T program at_start)) ≡ Ok shape → n ≤ 2 ^ 44
    by true e = absurd cc
    by false e =
        let r = shape_is (names_result program) (check_from T program at_start) shape e in
        let start : Small at_start = record { none = refl; each = λ a. omega arith } in
        at_most r.0 k n (ap limit_of r.2 ∙ l) (held_from T program at_start r.0 g each (inl start) r.1)
