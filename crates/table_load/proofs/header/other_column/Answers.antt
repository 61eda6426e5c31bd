use Rattle.std.proofs.Common.{Bor, ℕ, List, ◌≡◌, ◌∙◌, sym, ap, arith, rules, refl, true, length}
use Rattle.std.proofs.lemmas.Bool.{eq-eqb}
use Rattle.std.specs.Option.{option_map}
use Rattle.csv.specs.Records.{fields_of}
use Rattle.table_load.specs.Tables.{is_same_name}
use Rattle.table_load.proofs.FieldLaws.{field_missing, other_step}
use Rattle.table_load.proofs.header.other_column.Goals as goal
use Rattle.table_load.proofs.header.other_column.Goals.{in-Some+else-not-is_name, in_default}

pub returns-then-not-is_name : goal.returns-then-not-is_name
returns-then-not-is_name c =
    let same = eq-eqb _ _ (sym c.len.ensures ∙ c.if-len-columns.false) in
    let field = sym c.get.ensures.value ∙ ap (option_map (λ (s : Bor (List ℕ)). s.now)) c.in-Some.is in
    rw same (sym (c.columns.invariant ∙ other_step c.args.columns.now (fields_of c.args.row.now) c.columns.i c.index-columns-i.result _ c.columns-test.true field ∙ rw (← c.index-columns-i.is) (search rules)))

pub columns-preserved : goal.columns-preserved
columns-preserved c =
    elim c.match-get.branch [
      | in-Some+else-not-is_name w ↦
          let field = sym c.get.ensures.value ∙ ap (option_map (λ (s : Bor (List ℕ)). s.now)) w.in-Some.is in
          let same : is_same_name w.index-columns-i.result.name w.in-Some.field.now ≡ true = search rules in
          c.columns.invariant ∙ other_step c.args.columns.now (fields_of c.args.row.now) c.columns.i w.index-columns-i.result w.in-Some.field.now c.columns-test.true field ∙ rw (← w.index-columns-i.is, same) refl
      | in_default w ↦
          let gone = sym c.get.ensures.value ∙ ap (option_map (λ (s : Bor (List ℕ)). s.now)) w.in_default.is in
          let short = field_missing (fields_of c.args.row.now) c.columns.i gone in
          let long : length (fields_of c.args.row.now) ≡ length c.args.columns.now = search rules in
          absurd (omega (arith, short, long, c.columns-test.true))
    ]
