use Rattle.std.proofs.Common.{◌≡◌, ◌++◌, ap, sym, ◌∙◌, drop, length, List, ℕ, arith, subst}
use Rattle.std.proofs.lemmas.Bool.{false≢true}
use Rattle.key_paths.specs.Paths.{IsPath}
use Rattle.programs.specs.Moves.{stem, moved}
use Rattle.programs.proofs.Beginnings.{split_at, stem_begins, text_fits, deep_of, text_moved}
use Rattle.programs.proofs.moving.moved_path.Goals as goal

pub unreachable-requires : goal.unreachable-requires
unreachable-requires c =
    let p = c.args.p.now in
    let x = c.args.x.now in
    c.in_default.ensures.cases (drop (length (stem p)) (stem x))
    (c.stem.ensures.value ∙ stem_begins p x c.stem-2.ensures.path c.stem.ensures.path c.requires ∙ ap (λ (l : List ℕ). l ++ drop (length (stem p)) (stem x)) (sym c.stem-2.ensures.value))

pub is_path-requires : goal.is_path-requires
is_path-requires c =
    let cases = c.in-Some.ensures.cases in
    text_fits c.stem-3.result.now c.in-Some.rest.now c.as_bytes.result.now c.stem-3.ensures.short (omega (arith, cases.3, c.stem.ensures.short)) (c.as_bytes.ensures.value ∙ c.in_ok-text.ensures)

pub returns-then-not-is_path-clause-moved : goal.returns-then-not-is_path-clause-moved
returns-then-not-is_path-clause-moved c =
    let cases = c.in-Some.ensures.cases in
    let p = c.args.p.now in
    let q = c.args.q.now in
    let x = c.args.x.now in
    let text : c.as_bytes.result.now ≡ moved p q x = text_moved p q x _ _ _ c.in-Some.rest.now _ cases.0 c.stem.ensures.value c.stem-2.ensures.value c.stem-3.ensures.value cases.1.0 cases.2 (c.as_bytes.ensures.value ∙ c.in_ok-text.ensures) in
    deep_of c.stem-2.ensures.path.segments c.stem-3.ensures.path.segments x (moved p q x)
    (split_at p q x c.stem-2.ensures.path c.stem-3.ensures.path c.stem.ensures.path c.requires)
    (λ h. false≢true (sym c.if-not-is_path.true ∙ c.is_path.ensures.path.1 (subst IsPath (sym text) h)))

pub of-requires : goal.of-requires
of-requires c = subst IsPath (c.as_bytes.ensures.value ∙ sym c.as_str.ensures.value) (c.is_path.ensures.path.0 c.if-not-is_path.false)

pub returns-clause-moved : goal.returns-clause-moved
returns-clause-moved c =
    let cases = c.in-Some.ensures.cases in
    let p = c.args.p.now in
    let q = c.args.q.now in
    let x = c.args.x.now in
    let text : c.as_str.result.now ≡ moved p q x = text_moved p q x _ _ _ c.in-Some.rest.now _ cases.0 c.stem.ensures.value c.stem-2.ensures.value c.stem-3.ensures.value cases.1.0 cases.2 (c.as_str.ensures.value ∙ c.in_ok-text.ensures) in
    let is : c.in_ok-path.path ≡ c.as_str.result.now = c.in_ok-path.ensures in
    (is ∙ text, subst IsPath (c.as_bytes.ensures.value ∙ sym c.as_str.ensures.value ∙ sym is) (c.is_path.ensures.path.0 c.if-not-is_path.false))
