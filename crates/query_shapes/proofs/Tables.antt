-- The tables of FROM: 1 to 8, none with a condition of its own.
use Rattle.std.proofs.Common.{◌≡◌, ◌<◌, ◌≤◌, nat_le, List, [], ◌∷◌, ◌++◌, length, None, Ok, refl, subst, arith}
use Rattle.std.specs.Prelude.{All}
use Rattle.std.proofs.lemmas.Bool.{leb-false}
use Rattle.std.proofs.lemmas.List.{length_push}
use Rattle.std.proofs.lemmas.List.Elements.{All-nil, All-cons, All-push}
use Rattle.sql_read.specs.declared.definition.TableDef.{TableDef}
use Rattle.query_trees.specs.declared.clauses.Join.{Join}
use Rattle.query_trees.specs.declared.clauses.Source.{Source}
use Rattle.query_trees.specs.declared.clauses.TableName.{TableName}
use Rattle.typed_trees.specs.declared.typed.PlanSource.{PlanSource}
use Rattle.query_types.specs.declared.refusal.TypeKind.TheVariants.{TooManyTables}
use Rattle.query_types.specs.declared.scope.Called.{Called}
use Rattle.query_types.specs.declared.sources.Tables.{Tables}
use Rattle.query_types.specs.Sources.{Link, opened, source_of, link, with_table, with_join, with_joins, first, tables_of}
use Rattle.query_types.proofs.OutcomeLaws.{ok_same, then_ok, not_refused}

abbrev IsPlain : PlanSource → Type 0
IsPlain s = s.filter ≡ []

pub record AreFew (f : Tables) : Type 0 where
  pub count : length f.called ≡ length f.sources
  pub some : 1 ≤ length f.sources
  pub few : length f.sources ≤ 8
  pub plain : All IsPlain f.sources

few_before : (defs : List TableDef) (tables : List Called) (t : TableName) (c : Called) → opened defs tables t ≡ Ok c → length tables < 8
unfolding opened
few_before defs tables t c e = leb-false 8 (length tables) (not_refused (nat_le 8 (length tables)) TooManyTables t.at _ c e).0

with_more : (defs : List TableDef) (f : Tables) (t : Called) (l : Link) → length f.called < 8 → AreFew f → AreFew (with_table defs f t l)
with_more defs f t l room h =
    let s = source_of defs t.table l in
    let called = length_push f.called t in
    let sources = length_push f.sources s in
    let count = h.count in
    record {
      count = omega (arith, called, sources, count);
      some = omega (arith, sources);
      few = omega (arith, sources, count, room);
      plain = All-push IsPlain f.sources s h.plain refl;
    }

joined : (defs : List TableDef) (f g : Tables) (j : Join) → AreFew f → with_join defs f j ≡ Ok g → AreFew g
unfolding with_join
joined defs f g j h e =
    let t = then_ok (opened defs f.called j.table) _ g e in
    let l = then_ok (link defs (f.called ++ t.0 ∷ []) (length f.called) t.0.table j.kind) _ g t.2 in
    subst AreFew (ok_same (with_table defs f t.0 l.0) g l.2) (with_more defs f t.0 l.0 (few_before defs f.called j.table t.0 t.1) h)

all_joined : (defs : List TableDef) (js : List Join) (f g : Tables) → AreFew f → with_joins defs f js ≡ Ok g → AreFew g
all_joined defs [] f g h e = subst AreFew (ok_same f g e) h
all_joined defs (j ∷ js) f g h e = let x = then_ok (with_join defs f j) (λ z. with_joins defs z js) g e in all_joined defs js x.0 g (joined defs f x.0 j h x.1) x.2

alone : (defs : List TableDef) (t : TableName) (f : Tables) → first defs t ≡ Ok f → AreFew f
unfolding first
alone defs t f e =
    let c = then_ok (opened defs [] t) _ f e in
    let s = source_of defs c.0.table None in
    let whole : Tables = record { called = c.0 ∷ []; sources = s ∷ [] } in
    subst AreFew (ok_same whole f c.2) record { count = refl; some = omega arith; few = omega arith; plain = All-cons IsPlain s [] refl (All-nil IsPlain) }

pub are_few : (defs : List TableDef) (s : Source) (f : Tables) → tables_of defs s ≡ Ok f → AreFew f
unfolding tables_of
are_few defs s f e = let x = then_ok (first defs s.first) (λ z. with_joins defs z s.joins) f e in all_joined defs s.joins x.0 f (alone defs s.first x.0 x.1) x.2
