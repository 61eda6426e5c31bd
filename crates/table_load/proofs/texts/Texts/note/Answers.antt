use Rattle.std.proofs.Common.{rules, ◌≡◌, ◌∙◌, ◌++◌, ◌∷◌, [], sym, ap, false, Result, Ok, Err}
use Rattle.std.specs.Prelude.{string_bytes, is_some, length, IfOk}
use Rattle.std.specs.List.{list_any}
use Rattle.std.specs.Result.{is_err}
use Rattle.std.specs.Str.{bytes_eq}
use Rattle.std.proofs.lemmas.Bool.{false≢true}
use Rattle.table_load.proofs.TextLaws.{last_place, noted_last, noted_there, place_found}
use Rattle.table_load.proofs.texts.Texts.note.Goals as goal

if_ok : {T E : Type 0} (r : Result T E) (P : Type 0) → is_err r ≡ false → IfOk r (λ x. P) → P
if_ok (Ok x) P e h = h
if_ok (Err x) P e h = absurd (false≢true (sym e))

pub returns-in-Some-clause-place : goal.returns-in-Some-clause-place
returns-in-Some-clause-place c =
    let found = place_found (λ s. string_bytes s) c.args.text.now c.self.inside.set.keys c.in-Some.place (sym c.in-Some.ensures.index) in
    (c.in-Some.place, search rules, rw (← c.self.view_is) found)

pub returns-in-Some-clause-noted : goal.returns-in-Some-clause-noted
returns-in-Some-clause-noted c = rw (← c.self.view_is) (noted_there (λ s. string_bytes s) c.args.text.now c.self.inside.set.keys (sym c.in-Some.ensures.found))

pub returns-clause-place : goal.returns-clause-place
returns-clause-place c =
    let absent : list_any (λ k. bytes_eq c.args.text.now (string_bytes k)) c.self.inside.set.keys ≡ false = sym c.get_index_of.ensures.found ∙ ap is_some c.in_default.is in
    let absent_owned : list_any (λ k. bytes_eq (string_bytes c.in_ok-owned.owned) (string_bytes k)) c.self.inside.set.keys ≡ false = rw c.in_ok-owned.ensures.ok absent in
    let ok = sym c.is_err.ensures.value ∙ c.if-is_err.false in
    let keys : c.insert.new.self.keys ≡ c.self.inside.set.keys ++ c.in_ok-owned.owned ∷ [] = rw absent_owned at (if_ok c.insert.result _ ok c.insert.ensures.keys) in
    (length c.self.inside.set.keys, search rules, last_place (λ s. string_bytes s) c.args.text.now c.self.inside.set.keys c.insert.new.self.keys c.in_ok-owned.owned c.in_ok-owned.ensures.ok keys)

pub returns-clause-noted : goal.returns-clause-noted
returns-clause-noted c =
    let absent : list_any (λ k. bytes_eq c.args.text.now (string_bytes k)) c.self.inside.set.keys ≡ false = sym c.get_index_of.ensures.found ∙ ap is_some c.in_default.is in
    let absent_owned : list_any (λ k. bytes_eq (string_bytes c.in_ok-owned.owned) (string_bytes k)) c.self.inside.set.keys ≡ false = rw c.in_ok-owned.ensures.ok absent in
    let ok = sym c.is_err.ensures.value ∙ c.if-is_err.false in
    let keys : c.insert.new.self.keys ≡ c.self.inside.set.keys ++ c.in_ok-owned.owned ∷ [] = rw absent_owned at (if_ok c.insert.result _ ok c.insert.ensures.keys) in
    rw (← c.self.view_is) (noted_last (λ s. string_bytes s) c.args.text.now c.self.inside.set.keys c.insert.new.self.keys c.in_ok-owned.owned absent c.in_ok-owned.ensures.ok keys)
