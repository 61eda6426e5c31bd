-- Folds of a value reach it.
use Rattle.std.proofs.Common.{◌≡◌, ℕ, ◌+◌, List, [], ◌∷◌, ◌++◌, refl, sym, subst, Option, Some, None, codes}
use Rattle.control_vectors.specs.declared.PairKind.TheVariants as pair
use Rattle.programs.specs.declared.family.FoldOperator.{FoldOperator}
use Rattle.programs.specs.declared.family.FoldOperator.TheVariants as fold
use Rattle.programs.specs.declared.op.FoldArgs.{FoldArgs}
use Rattle.programs.specs.Mentions.{Label, mentioned}
use Rattle.typed_trees.specs.declared.typed.AggregateKind.{AggregateKind}
use Rattle.typed_trees.specs.declared.typed.AggregateKind.TheVariants as of
use Rattle.program_writers.specs.Statements.{out, val, attribute, with_attribute, fold_args, fold_of, at_places}
use Rattle.program_writers.specs.Statements as statements
use Rattle.program_writers.specs.Writers.{◌>>=◌, make, numbered}
use Rattle.writer_runs.specs.Uses.{Includes}
use Rattle.writer_runs.proofs.Used.{beside}
use Rattle.plan_programs.specs.Groups.{Folding, collected, folded, is_there, counted, count, mean, aggregated}
use Rattle.lowered_group_checks.proofs.Used.{UsesAt, here, there, includes_one, includes_more, nothing_used, fewer, then_used, last_used, used_then}

collected_used : (first : Option Label) (folded : Label) (k : ℕ) → UsesAt ((collected first folded k).told ∷ []) (folded ∷ []) (collected first folded) k
collected_used None folded k = nothing_used (folded ∷ [])
collected_used (Some first) folded k =
    let name = numbered (codes "one") k in
    last_used (codes "one") (at_places folded first) k (name ∷ []) (folded ∷ []) (here name [])
    (includes_one (folded ∷ first ∷ name ∷ []) folded (here folded (first ∷ name ∷ [])))

fold_mentions : (kind : FoldOperator) (f : FoldArgs) → mentioned (fold_of kind f) ≡ f.a ∷ []
fold_mentions fold.Sum f = refl
fold_mentions fold.Min f = refl
fold_mentions fold.Max f = refl
fold_mentions fold.Select f = refl
fold_mentions fold.Scan f = refl

-- a fold behind the values and their runs
fold_used : (f : Folding) (kind : FoldOperator) (values : Label) (k : ℕ) → UsesAt (((make (codes "fold") (fold_of kind (fold_args values)) >>= collected f.first) k).told ∷ []) (values ∷ []) (make (codes "fold") (fold_of kind (fold_args values)) >>= collected f.first) k
fold_used f kind values k =
    let name = numbered (codes "fold") k in
    used_then (codes "fold") (fold_of kind (fold_args values)) (collected f.first) k ((collected f.first name (k + 1)).told ∷ []) (name ∷ []) (values ∷ []) (here name [])
    (subst (λ (names : List Label). Includes (names ++ name ∷ []) (values ∷ [])) (sym (fold_mentions kind (fold_args values)))
    (includes_one (values ∷ name ∷ []) values (here values (name ∷ []))))
    (collected_used f.first name (k + 1))

pub folded_used : (f : Folding) (kind : FoldOperator) (value : Label) (k : ℕ) → UsesAt ((folded f kind value k).told ∷ []) (value ∷ []) (folded f kind value) k
folded_used f kind value k =
    let name = numbered (codes "values") k in
    used_then (codes "values") (with_attribute f.runs val value out) (λ values. make (codes "fold") (fold_of kind (fold_args values)) >>= collected f.first) k
    ((folded f kind value k).told ∷ []) (name ∷ []) (value ∷ []) (here name [])
    (includes_one (f.runs ∷ value ∷ name ∷ []) value (there f.runs value (value ∷ name ∷ []) (here value (name ∷ []))))
    (fold_used f kind name (k + 1))

is_there_used : (f : Folding) (value : Label) (k : ℕ) → UsesAt ((is_there f value k).told ∷ []) (value ∷ []) (is_there f value) k
is_there_used f value k =
    let same = numbered (codes "same") k in
    let name = numbered (codes "there") (k + 1) in
    used_then (codes "same") (statements.pair pair.Equals (attribute value out) (attribute value out)) (λ same. make (codes "there") (statements.pair pair.Fill (attribute same out) (attribute f.nought out))) k
    (name ∷ []) (same ∷ []) (value ∷ []) (here same []) (includes_one (value ∷ value ∷ same ∷ []) value (here value (value ∷ same ∷ [])))
    (last_used (codes "there") (statements.pair pair.Fill (attribute same out) (attribute f.nought out)) (k + 1) (name ∷ []) (same ∷ []) (here name [])
    (includes_one (same ∷ f.nought ∷ name ∷ []) same (here same (f.nought ∷ name ∷ []))))

counted_used : (f : Folding) (value : Label) (k : ℕ) → UsesAt ((counted f value k).told ∷ []) (value ∷ []) (counted f value) k
counted_used f value k =
    let w = is_there f value k in
    then_used (folded f fold.Sum) ((folded f fold.Sum w.told w.next).told ∷ []) (w.told ∷ []) (value ∷ []) (is_there f value) k (is_there_used f value k) (folded_used f fold.Sum w.told w.next)

count_used : (f : Folding) (value : Label) (k : ℕ) → UsesAt ((count f value k).told ∷ []) (value ∷ []) (count f value) k
count_used f value k =
    let w = counted f value k in
    let name = numbered (codes "count") w.next in
    then_used (λ n. make (codes "count") (statements.pair pair.Fill (attribute n out) (attribute f.zero out))) (name ∷ []) (w.told ∷ []) (value ∷ []) (counted f value) k (counted_used f value k)
    (last_used (codes "count") (statements.pair pair.Fill (attribute w.told out) (attribute f.zero out)) w.next (name ∷ []) (w.told ∷ []) (here name [])
    (includes_one (w.told ∷ f.zero ∷ name ∷ []) w.told (here w.told (f.zero ∷ name ∷ []))))

mean_used : (f : Folding) (value : Label) (k : ℕ) → UsesAt ((mean f value k).told ∷ []) (value ∷ []) (mean f value) k
mean_used f value k =
    let t = folded f fold.Sum value k in
    let n = counted f value t.next in
    let name = numbered (codes "mean") n.next in
    then_used (λ total. counted f value >>= λ n. make (codes "mean") (statements.pair pair.Divide (attribute total out) (attribute n out))) (name ∷ []) (t.told ∷ value ∷ []) (value ∷ []) (folded f fold.Sum value) k
    (fewer (t.told ∷ value ∷ []) (value ∷ value ∷ []) (value ∷ []) (folded f fold.Sum value) k (includes_one (value ∷ value ∷ []) value (here value (value ∷ [])))
    (beside (t.told ∷ []) (value ∷ []) (value ∷ []) t.statements (folded_used f fold.Sum value k)))
    (then_used (λ n. make (codes "mean") (statements.pair pair.Divide (attribute t.told out) (attribute n out))) (name ∷ []) (n.told ∷ t.told ∷ []) (t.told ∷ value ∷ []) (counted f value) t.next
    (fewer (n.told ∷ t.told ∷ []) (value ∷ t.told ∷ []) (t.told ∷ value ∷ []) (counted f value) t.next
    (includes_more (value ∷ t.told ∷ []) t.told (value ∷ []) (there value t.told (t.told ∷ []) (here t.told [])) (includes_one (value ∷ t.told ∷ []) value (here value (t.told ∷ []))))
    (beside (n.told ∷ []) (value ∷ []) (t.told ∷ []) n.statements (counted_used f value t.next)))
    (last_used (codes "mean") (statements.pair pair.Divide (attribute t.told out) (attribute n.told out)) n.next (name ∷ []) (n.told ∷ t.told ∷ []) (here name [])
    (includes_more (t.told ∷ n.told ∷ name ∷ []) n.told (t.told ∷ []) (there t.told n.told (n.told ∷ name ∷ []) (here n.told (name ∷ [])))
    (includes_one (t.told ∷ n.told ∷ name ∷ []) t.told (here t.told (n.told ∷ name ∷ []))))))

pub aggregated_used : (f : Folding) (kind : AggregateKind) (value : Label) (k : ℕ) → UsesAt ((aggregated f kind value k).told ∷ []) (value ∷ []) (aggregated f kind value) k
aggregated_used f of.Count value k = count_used f value k
aggregated_used f of.Sum value k = folded_used f fold.Sum value k
aggregated_used f of.Min value k = folded_used f fold.Min value k
aggregated_used f of.Max value k = folded_used f fold.Max value k
aggregated_used f of.Avg value k = mean_used f value k
