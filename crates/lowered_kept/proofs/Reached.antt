-- The statements that keep the rows for which conditions are true are used: each is reached from the rows that are left, or is never Over.
use Rattle.std.proofs.Common.{◌≡◌, ℕ, ◌+◌, Bool, true, false, ◌||◌, List, [], ◌∷◌, ◌++◌, refl, subst, codes}
use Rattle.std.specs.Prelude.{All}
use Rattle.std.specs.Str.{bytes_eq}
use Rattle.std.proofs.lemmas.List.Elements.{All-nil, All-cons, All-head, All-tail}
use Rattle.std.proofs.lemmas.Slice.Eq.{bytes_eq-Decides}
use Rattle.control_vectors.specs.Controls.{Control}
use Rattle.control_vectors.specs.declared.PairKind.TheVariants as pair_kind
use Rattle.programs.specs.declared.family.FoldOperator.TheVariants as fold
use Rattle.programs.specs.declared.op.Op.TheVariants as op
use Rattle.programs.specs.declared.op.Size.TheVariants as size
use Rattle.programs.specs.declared.op.Statement.{Statement}
use Rattle.programs.specs.Mentions.{Label, mentioned, has_name}
use Rattle.typed_trees.specs.declared.typed.TypedExpr.{TypedExpr}
use Rattle.expr_steps.specs.Lowered.{Bytes}
use Rattle.program_writers.specs.Statements.{out, mark, val, run, pair, attribute, with_attribute, fold_args, fold_of, at_places}
use Rattle.program_writers.specs.Writers.{numbered, statement, through}
use Rattle.plan_programs.specs.Sites.{Base, value_of}
use Rattle.plan_programs.specs.Rows.{everywhere, and_true, selected}
use Rattle.writer_runs.specs.Uses.{Includes, Uses}
use Rattle.writer_runs.proofs.Agreeing.{has_first, has_later}
use Rattle.writer_runs.proofs.Used.{used_laws}
use Rattle.lowered_stages.specs.Parts.{told_at, KeptUses}
use Rattle.lowered_kept.proofs.Stated.{value_uses}

-- names, each of which is among others
included : (names some : List Label) → All (λ n. has_name names n ≡ true) some → Includes names some
included names [] h n e = absurd cc
included names (m ∷ some) h n e = by (λ t. included names some (All-tail (λ l. has_name names l ≡ true) m some h) n t) (bytes_eq m n) refl e
  where
    by : (has_name some n ≡ true → has_name names n ≡ true) → (b : Bool) → bytes_eq m n ≡ b → (b || has_name some n) ≡ true → has_name names n ≡ true
    by rest true is t = subst (λ (l : Label). has_name names l ≡ true) ((bytes_eq-Decides m n).0 is) (All-head (λ l. has_name names l ≡ true) m some h)
    by rest false is t = rest t

included_one : (names : List Label) (n : Label) → has_name names n ≡ true → Includes names (n ∷ [])
included_one names n h = included names (n ∷ []) (All-cons (λ l. has_name names l ≡ true) n [] h (All-nil (λ l. has_name names l ≡ true)))

included_two : (names : List Label) (n m : Label) → has_name names n ≡ true → has_name names m ≡ true → Includes names (n ∷ m ∷ [])
included_two names n m h k =
    included names (n ∷ m ∷ []) (All-cons (λ l. has_name names l ≡ true) n (m ∷ []) h (All-cons (λ l. has_name names l ≡ true) m [] k (All-nil (λ l. has_name names l ≡ true))))

itself : (names : List Label) → Includes names names
itself names n h = h

fewer : (wanted front less : List Label) (a : List Statement) → Includes front less → Uses wanted front a → Uses wanted less a
fewer wanted front less a h u = used_laws.more wanted wanted front less a (itself wanted) h u

-- a statement whose name is wanted by those behind it
used_before : (wanted front : List Label) (s : Statement) (rest : List Statement) → has_name front s.name ≡ true → Uses wanted front rest → Uses wanted (mentioned s.op ++ front) (s ∷ rest)
used_before wanted front s rest h u = used_laws.append wanted front (mentioned s.op ++ front) (s ∷ []) rest (used_laws.one front s h) u

module _ (b : Base) where
  everywhere_used : (k : ℕ) → Uses (told_at (everywhere b) k ∷ b.vector ∷ []) (b.vector ∷ []) (everywhere b k).statements
  everywhere_used k =
      let all = numbered (codes "all") k in
      let s = statement all (pair pair_kind.Equals (attribute b.vector mark) (attribute b.vector mark)) in
      let both = all ∷ b.vector ∷ [] in
      fewer both both (b.vector ∷ []) (s ∷ []) (included_one both b.vector (has_later all (b.vector ∷ []) b.vector (has_first b.vector []))) (used_laws.idle both s refl)

  and_used : (texts : List Bytes) (all : Label) (e : TypedExpr) (k : ℕ) → Uses (told_at (and_true texts b all e) k ∷ b.vector ∷ []) (all ∷ b.vector ∷ []) (and_true texts b all e k).statements
  and_used texts all e k =
      let value = value_of texts (codes "where") b e k in
      let x = value.told in
      let next = numbered (codes "all") value.next in
      let s = statement next (pair pair_kind.LogicalAnd (attribute all out) (attribute x out)) in
      let wanted = next ∷ b.vector ∷ [] in
      let others = all ∷ b.vector ∷ [] in
      let reads = all ∷ x ∷ wanted in
      let read : Uses wanted reads (s ∷ []) = used_laws.one wanted s (has_first next (b.vector ∷ [])) in
      let between : Uses wanted (x ∷ others) (s ∷ []) =
      fewer wanted reads (x ∷ others) (s ∷ [])
      (included reads (x ∷ others)
      (All-cons (λ l. has_name reads l ≡ true) x others (has_later all (x ∷ wanted) x (has_first x wanted))
      (All-cons (λ l. has_name reads l ≡ true) all (b.vector ∷ []) (has_first all (x ∷ wanted))
      (All-cons (λ l. has_name reads l ≡ true) b.vector [] (has_later all (x ∷ wanted) b.vector (has_later x wanted b.vector (has_later next (b.vector ∷ []) b.vector (has_first b.vector []))))
      (All-nil (λ l. has_name reads l ≡ true))))))
      read
      in
      let first : Uses (x ∷ others) (b.vector ∷ others) value.statements = used_laws.beside (x ∷ []) (b.vector ∷ []) others value.statements (value_uses texts (codes "where") b e k) in
      fewer wanted (b.vector ∷ others) others (value.statements ++ s ∷ []) (λ n h. has_later b.vector others n h) (used_laws.append wanted (x ∷ others) (b.vector ∷ others) value.statements (s ∷ []) first between)

  truths_used : (texts : List Bytes) (es : List TypedExpr) (all : Label) (k : ℕ) → Uses (told_at (through (and_true texts b) all es) k ∷ b.vector ∷ []) (all ∷ b.vector ∷ []) (through (and_true texts b) all es k).statements
  truths_used texts [] all k = used_laws.none (all ∷ b.vector ∷ [])
  truths_used texts (e ∷ es) all k =
      let first = and_true texts b all e k in
      let rest = through (and_true texts b) first.told es first.next in
      used_laws.append (rest.told ∷ b.vector ∷ []) (first.told ∷ b.vector ∷ []) (all ∷ b.vector ∷ []) first.statements rest.statements (and_used texts all e k) (truths_used texts es first.told first.next)

  selected_used : (select : Control) (all : Label) (k : ℕ) → Uses ((told_at (selected select b all) k).vector ∷ []) (all ∷ b.vector ∷ []) (selected select b all k).statements
  selected_used select all k =
      let runs = statement (numbered (codes "runs") k) (op.Range (size.Of b.vector) run select) in
      let pick = statement (numbered (codes "pick") (k + 1)) (with_attribute runs.name val all out) in
      let places = statement (numbered (codes "places") (k + 1 + 1)) (fold_of fold.Select (fold_args pick.name)) in
      let rows = statement (numbered (codes "rows") (k + 1 + 1 + 1)) (at_places b.vector places.name) in
      let wanted = rows.name ∷ [] in
      let behind_places = b.vector ∷ places.name ∷ wanted in
      let behind_pick = pick.name ∷ behind_places in
      let behind_runs = runs.name ∷ all ∷ behind_pick in
      let at_rows : Uses wanted behind_places (rows ∷ []) = used_laws.one wanted rows (has_first rows.name []) in
      let at_places : Uses wanted behind_pick (places ∷ rows ∷ []) = used_before wanted behind_places places (rows ∷ []) (has_later b.vector (places.name ∷ wanted) places.name (has_first places.name wanted)) at_rows in
      let at_pick : Uses wanted behind_runs (pick ∷ places ∷ rows ∷ []) = used_before wanted behind_pick pick (places ∷ rows ∷ []) (has_first pick.name behind_places) at_places in
      let at_runs : Uses wanted (b.vector ∷ behind_runs) (runs ∷ pick ∷ places ∷ rows ∷ []) = used_before wanted behind_runs runs (pick ∷ places ∷ rows ∷ []) (has_first runs.name (all ∷ behind_pick)) at_pick in
      fewer wanted (b.vector ∷ behind_runs) (all ∷ b.vector ∷ []) (runs ∷ pick ∷ places ∷ rows ∷ [])
      (included_two (b.vector ∷ behind_runs) all b.vector (has_later b.vector behind_runs all (has_later runs.name (all ∷ behind_pick) all (has_first all behind_pick))) (has_first b.vector behind_runs)) at_runs

pub kept_uses : KeptUses
kept_uses select texts b [] k = used_laws.none (b.vector ∷ [])
kept_uses select texts b (e ∷ es) k =
    let first = everywhere b k in
    let truths = through (and_true texts b) first.told (e ∷ es) first.next in
    let rest = selected select b truths.told truths.next in
    used_laws.append (rest.told.vector ∷ []) (first.told ∷ b.vector ∷ []) (b.vector ∷ []) first.statements (truths.statements ++ rest.statements) (everywhere_used b k)
    (used_laws.append (rest.told.vector ∷ []) (truths.told ∷ b.vector ∷ []) (first.told ∷ b.vector ∷ []) truths.statements rest.statements (truths_used b texts (e ∷ es) first.told first.next) (selected_used b select truths.told truths.next))
