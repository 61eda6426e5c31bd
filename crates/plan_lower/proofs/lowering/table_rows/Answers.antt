use Rattle.std.proofs.Common.{◌≡◌, ℕ, List, refl, sym, subst, Result, Ok, Err, IfOk, Option, Some, None, slice_get, length}
use Rattle.std.proofs.lemmas.Option.{slice_get_past, slice_get_read}
use Rattle.std.proofs.lemmas.Bool.{ltb-true, ltb-false}
use Rattle.program_writers.specs.declared.writer.Writer.{Writer as Text}
use Rattle.program_writers.specs.Codes.{Adds}
use Rattle.program_writers.proofs.Writing.{tells}
use Rattle.sql_read.specs.declared.definition.TableDef.{TableDef}
use Rattle.plan_programs.specs.Sites.{Base}
use Rattle.plan_programs.specs.Lowered as spec
use Rattle.plan_programs.specs.Rows as rows
use Rattle.plan_lower.proofs.lowering.table_rows.Goals as goal

-- no such definition
undefined : {E : Type 0} (found : Option TableDef) (columns : List ℕ) (w : Text) (r : Result Base E) → found ≡ None → IfOk r (λ b. b ≡ spec.nothing) → IfOk r (λ b. Adds (spec.defined_rows found columns) w w b)
undefined found columns w (Err e) is h = tt
undefined found columns w (Ok b) is h = subst (λ (f : Option TableDef). Adds (spec.defined_rows f columns) w w b) (sym is) (subst (λ (x : Base). Adds (spec.defined_rows None columns) w w x) (sym h) (tells spec.nothing w))

defined : {E : Type 0} (found : Option TableDef) (def : TableDef) (columns : List ℕ) (old new : Text) (r : Result Base E) → found ≡ Some def → IfOk r (λ b. Adds (rows.rows_of def 0 columns) old new b) → IfOk r (λ b. Adds (spec.defined_rows found columns) old new b)
defined found def columns old new r is h = subst (λ (f : Option TableDef). IfOk r (λ b. Adds (spec.defined_rows f columns) old new b)) (sym is) h

pub returns-in-None : goal.returns-in-None
returns-in-None c = undefined (slice_get c.args.defs.now c.args.table) c.args.columns.now c.args.w.now c.nothing.result (slice_get_past c.args.defs.now c.args.table (ltb-false c.args.table (length c.args.defs.now) (sym c.in-None.ensures.lookup.0))) c.nothing.ensures

pub returns-in-Some : goal.returns-in-Some
returns-in-Some c = defined (slice_get c.args.defs.now c.args.table) c.in-Some.def.now c.args.columns.now c.args.w.now c.rows_of.new.w c.rows_of.result (slice_get_read c.args.defs.now (length c.args.defs.now) c.args.table c.in-Some.def.now refl (ltb-true c.args.table (length c.args.defs.now) (sym c.in-Some.ensures.lookup.0)) c.in-Some.ensures.lookup.1) c.rows_of.ensures
