-- Statements of steps pass the check one by one: each reads vectors of one length that have what it reads.
use Rattle.std.proofs.Common.{◌≡◌, ℕ, ◌+◌, ◌<◌, ◌≤◌, ◌^◌, ◌⊎◌, inl, inr, Bool, true, false, ◌&&◌, List, [], ◌∷◌, length, refl, sym, ap, ◌∙◌, subst, arith, None, Ok}
use Rattle.std.specs.Str.{bytes_eq}
use Rattle.std.proofs.lemmas.Bool.{cases_lt}
use Rattle.std.proofs.lemmas.Slice.Eq.{bytes_eq-Decides}
use Rattle.std.proofs.lemmas.List.Elements.{All-append, All-cons, All-nil}
use Rattle.programs.specs.declared.op.Statement.{Statement}
use Rattle.programs.specs.Check.{Known, Checked, with_vector, then_check, check_one, check_from}
use Rattle.programs.specs.Families.{Family, family, pair_of}
use Rattle.programs.specs.Mentions.{Label}
use Rattle.programs.specs.Outlines.{Outline, outlined, Shapes, add_shape}
use Rattle.programs.proofs.CheckLemmas.{add_shape-other}
use Rattle.expr_steps.specs.declared.steps.Source.{Source}
use Rattle.expr_steps.specs.declared.steps.Source.TheVariants as at
use Rattle.expr_steps.specs.declared.steps.Step.{Step}
use Rattle.expr_lower.specs.Statements.{Site, out, name_of, operand_of, args_of, statements_from}
use Rattle.expr_scopes.specs.Scopes.{Names, IsBefore, is_number, IsScoped, AreScoped}
use Rattle.program_writers.specs.Names.{is_word, HasNumber, IsBelow}
use Rattle.program_writers.specs.Writers.{numbered as part_name}
use Rattle.program_writers.proofs.Numbers.{below_next}
use Rattle.writer_checks.specs.Checks.{AreSmall, IsFresh, HasShape}
use Rattle.writer_checks.specs.Laws.{HasOperand, HasLength}
use Rattle.writer_checks.proofs.Making.{Fine, fine_checked, add_shape-same}
use Rattle.writer_checks.proofs.Operators.{pair_fine, pair_family}
use Rattle.writer_checks.proofs.Outlined.{names_one}
use Rattle.expr_programs.specs.Values.{Base, site_of, HasPlaces}
use Rattle.expr_programs.proofs.Naming.{name_has, not_below, named_step, later_differs, earlier_differs}

-- ---- what is known stays known

pub kept_shape : (before after : Shapes) (name : Label) (len : ℕ) (paths : List Label) → after name ≡ before name → HasShape before name len paths → HasShape after name len paths
kept_shape before after name len paths e h = record { outline = h.outline; known = e ∙ h.known; len_is = h.len_is; clear = h.clear; shallow = h.shallow; each = h.each }

kept_places : (names : Names) (before after : Shapes) (b : Base) (len : ℕ) → after b.vector ≡ before b.vector → HasPlaces names before b len → HasPlaces names after b len
kept_places names before after b len e h = record {
  marked = kept_shape before after b.vector len _ e h.marked;
  columns = λ c n. kept_shape before after b.vector len _ e (h.columns c n);
  aggregates = λ a n. kept_shape before after b.vector len _ e (h.aggregates a n);
}

-- ---- operands

pub operands_long : (s : Site) (x y : Source) → (is_number x && is_number y) ≡ false → HasLength (operand_of s x) (operand_of s y)
operands_long s at.Mark y h = tt
operands_long s (at.Column c) y h = tt
operands_long s (at.Aggregate n) y h = tt
operands_long s (at.Made i) y h = tt
operands_long s (at.Number z) at.Mark h = tt
operands_long s (at.Number z) (at.Column c) h = tt
operands_long s (at.Number z) (at.Aggregate n) h = tt
operands_long s (at.Number z) (at.Made i) h = tt
operands_long s (at.Number z) (at.Number w) h = absurd cc

-- what holds of the vectors in front of step j of those up to the last
pub record AreReady (names : Names) (b : Base) (stem : Label) (last len j : ℕ) (shapes : Shapes) : Type 0 where
  pub places : HasPlaces names shapes b len
  pub made : (i : ℕ) → i < j → HasShape shapes (name_of stem last i) len (out ∷ [])
  pub unmade : (i : ℕ) → j ≤ i → i ≤ last → shapes (name_of stem last i) ≡ None

operand_has : (names : Names) (b : Base) (stem : Label) (last len j : ℕ) (shapes : Shapes) (x : Source) → j ≤ last → AreReady names b stem last len j shapes → IsBefore names j x → HasOperand shapes len (operand_of (site_of b stem) x)
operand_has names b stem last len j shapes at.Mark l r h = r.places.marked
operand_has names b stem last len j shapes (at.Column c) l r h = r.places.columns c h
operand_has names b stem last len j shapes (at.Aggregate n) l r h = r.places.aggregates n h
operand_has names b stem last len j shapes (at.Made i) l r h = subst (λ (n : Label). HasShape shapes n len (out ∷ [])) (named_step stem last i (omega (arith, h, l))) (r.made i h)
operand_has names b stem last len j shapes (at.Number z) l r h = tt

-- ---- one step

abbrev pub made_shape : ℕ → Outline
made_shape len = outlined len (out ∷ [])

step_fine : (tables : Shapes) (names : Names) (b : Base) (stem : Label) (last len j : ℕ) (shapes : Shapes) (step : Step) → j ≤ last → AreReady names b stem last len j shapes → IsScoped names j step → Fine tables shapes (family (pair_of step.kind (args_of (site_of b stem) step))) (made_shape len)
step_fine tables names b stem last len j shapes step l r h =
    let s = site_of b stem in
    subst (λ (f : Family). Fine tables shapes f (made_shape len)) (sym (pair_family step.kind (args_of s step)))
    (pair_fine tables shapes step.kind (operand_of s step.x) (operand_of s step.y) len (operand_has names b stem last len j shapes step.x l r h.x) (operand_has names b stem last len j shapes step.y l r h.y) (operands_long s step.x step.y h.source))

pub step_checked : (tables : Shapes) (names : Names) (b : Base) (stem : Label) (last len j : ℕ) (known : Known) (step : Step) → j ≤ last → AreReady names b stem last len j known.vectors → IsScoped names j step → check_one tables known (name_of stem last j) (pair_of step.kind (args_of (site_of b stem) step)) ≡ Ok (with_vector known (name_of stem last j) (made_shape len))
step_checked tables names b stem last len j known step l r h =
    fine_checked tables known (name_of stem last j) (pair_of step.kind (args_of (site_of b stem) step)) (made_shape len) (step_fine tables names b stem last len j known.vectors step l r h) (r.unmade j (omega arith) l)

-- the shape of what is made
made_has : (shapes : Shapes) (n : Label) (len : ℕ) → HasShape (add_shape shapes n (made_shape len)) n len (out ∷ [])
made_has shapes n len = record { outline = made_shape len; known = add_shape-same shapes n (made_shape len); len_is = refl; clear = refl; shallow = refl; each = names_one out }

pub next_ready : (names : Names) (b : Base) (word : Label) (k last len j : ℕ) (shapes : Shapes) → is_word word ≡ true → IsBelow k b.vector → j ≤ last → last < 2 ^ 64 → AreReady names b (part_name word k) last len j shapes → AreReady names b (part_name word k) last len (j + 1) (add_shape shapes (name_of (part_name word k) last j) (made_shape len))
next_ready names b word k last len j shapes w low l few r = record {
  places = kept_places names shapes after b len (add_shape-other shapes name b.vector (made_shape len) (not_below k name b.vector (name_has word k last j w) low)) r.places;
  made = λ i h. earlier i (cases_lt i j) h;
  unmade = λ i h m. add_shape-other shapes name (name_of stem last i) (made_shape len) (subst (λ (n : Label). bytes_eq n (name_of stem last i) ≡ false) (sym (named_step stem last j (omega (arith, h, m)))) (earlier_differs stem last j i (omega (arith, h)) m few)) ∙ r.unmade i (omega (arith, h)) m;
}
  where
    stem : Label
    stem = part_name word k

    name : Label
    name = name_of stem last j

    after : Shapes
    after = add_shape shapes name (made_shape len)

    earlier : (i : ℕ) → (i < j) ⊎ (j ≤ i) → i < j + 1 → HasShape after (name_of stem last i) len (out ∷ [])
    earlier i (inl less) h =
        kept_shape shapes after (name_of stem last i) len (out ∷ []) (add_shape-other shapes name (name_of stem last i) (made_shape len) (subst (λ (n : Label). bytes_eq name n ≡ false) (sym (named_step stem last i (omega (arith, less, l)))) (later_differs stem last i j less l few))) (r.made i less)
    earlier i (inr more) h = let same : j ≡ i = omega (arith, more, h) in subst (λ (n : ℕ). HasShape after (name_of stem last n) len (out ∷ [])) same (made_has shapes name len)

-- ---- all of them

pub record Checks (tables : Shapes) (names : Names) (b : Base) (word : Label) (k last len : ℕ) (statements : List Statement) (known : Known) : Type 0 where
  pub after : Known
  pub passes : check_from tables statements known ≡ Ok after
  pub ready : AreReady names b (part_name word k) last len (last + 1) after.vectors
  pub fresh : IsFresh (k + 1) after.vectors
  pub kept : (name : Label) → IsBelow k name → after.vectors name ≡ known.vectors name
  pub results : after.results ≡ known.results
  pub small : AreSmall known.shape → AreSmall after.shape

fresh_behind : (k : ℕ) (n : Label) (shapes : Shapes) (o : Outline) → HasNumber k n → IsFresh (k + 1) shapes → IsFresh (k + 1) (add_shape shapes n o)
fresh_behind k n shapes o has fresh name some = by (bytes_eq n name) refl
  where
    by : (b : Bool) → bytes_eq n name ≡ b → IsBelow (k + 1) name
    by true e = subst (IsBelow (k + 1)) ((bytes_eq-Decides n name).0 e) (below_next k n has)
    by false e = fresh name (λ none. some (add_shape-other shapes n name o e ∙ none))

pub all_checked : (tables : Shapes) (names : Names) (b : Base) (word : Label) (k last len j : ℕ) (steps : List Step) (known : Known) → is_word word ≡ true → IsBelow k b.vector → last < 2 ^ 64 → len ≤ 2 ^ 22 → j + length steps ≡ last + 1 → AreScoped names j steps → IsFresh (k + 1) known.vectors → AreReady names b (part_name word k) last len j known.vectors
    → Checks tables names b word k last len (statements_from (site_of b (part_name word k)) last j steps) known
all_checked tables names b word k last len j [] known w low few small n scoped fresh r =
    let e : j ≡ last + 1 = omega (arith, n) in
    record { after = known; passes = refl; ready = subst (λ i. AreReady names b (part_name word k) last len i known.vectors) e r; fresh = fresh; kept = λ name below. refl; results = refl; small = λ s. s }
all_checked tables names b word k last len j (step ∷ steps) known w low few small n scoped fresh r =
    let stem = part_name word k in
    let l : j ≤ last = omega (arith, n) in
    let name = name_of stem last j in
    let has = name_has word k last j w in
    let next = with_vector known name (made_shape len) in
    let rest = all_checked tables names b word k last len (j + 1) steps next w low few small (omega (arith, n)) scoped.1 (fresh_behind k name known.vectors (made_shape len) has fresh) (next_ready names b word k last len j known.vectors w low l few r) in
    record {
      after = rest.after;
      passes = ap (λ (q : Checked). then_check q (check_from tables (statements_from (site_of b stem) last (j + 1) steps))) (step_checked tables names b stem last len j known step l r scoped.0) ∙ rest.passes;
      ready = rest.ready;
      fresh = rest.fresh;
      kept = λ m below. rest.kept m below ∙ add_shape-other known.vectors name m (made_shape len) (not_below k name m has below);
      results = rest.results;
      small = λ s. rest.small (All-append (λ (x : Outline). x.len ≤ 2 ^ 22) known.shape (made_shape len ∷ []) s (All-cons (λ (x : Outline). x.len ≤ 2 ^ 22) (made_shape len) [] small (All-nil (λ (x : Outline). x.len ≤ 2 ^ 22))));
    }
