-- What is known of the vectors by name is their outlines.
use Rattle.std.proofs.Common.{◌≡◌, ◌^◌, ◌≤◌, List, [], ◌∷◌, refl, sym, ap, ◌∙◌, subst, Option, Some, None, Result, Ok, Err}
use Rattle.std.proofs.Math.Path.{fun_ext}
use Rattle.control_vectors.specs.declared.Over.{Over}
use Rattle.programs.specs.declared.op.Op.{Op}
use Rattle.programs.specs.declared.op.ProgramKind.{ProgramKind}
use Rattle.programs.specs.declared.op.Statement.{Statement}
use Rattle.programs.specs.Families.{family}
use Rattle.programs.specs.Mentions.{Label}
use Rattle.programs.specs.Vectors.{Vector, Env, put}
use Rattle.programs.specs.Outlines.{Shapes, outlines, outline_of}
use Rattle.programs.specs.MadeOutlines.{made_outline}
use Rattle.programs.specs.Check.{Known, learn, fault_of, after_fault, then_check, check_from, limit_of}
use Rattle.programs.proofs.ShapeLaws.{all_short}
use Rattle.voodoo_ops.specs.Meaning.{Run, effect, after_effect, step, then_run, run_from}
use Rattle.voodoo_ops.proofs.Outlining.{outline_made}
use Rattle.voodoo_ops.proofs.Ready.{AllShort, learned, learned_result, no_effect, some_effect, put_agrees, grows, shape_behind, short_one}

outline_one : (store env : Env) (known next : Known) (now : Env) (n : Label) (op : Op) → (made_outline (outlines store) (outlines env) op).len ≤ 2 ^ 22 → outlines env ≡ known.vectors → learn (outlines store) known n op ≡ next → step store env n op ≡ Ok now → outlines now ≡ next.vectors
outline_one store env known next now n op short same l e = go (effect store env op) refl e
  where
    T : Shapes
    T = outlines store

    made : (learn (outlines store) known n op).vectors ≡ next.vectors
    made = ap (λ (k : Known). k.vectors) l

    go : (o : Option (Result Vector Over)) → effect store env op ≡ o → after_effect env n o ≡ Ok now → outlines now ≡ next.vectors
    go None q f =
        let is : env ≡ now = cc in
        ap outlines (sym is) ∙ same ∙ sym (fun_ext (λ m. learned_result (outlines store) known n m op (no_effect store env (family op) q))) ∙ made
    go (Some (Err x)) q f = absurd cc
    go (Some (Ok v)) q f =
        let is : put env n v ≡ now = cc in
        let foretold : outline_of v ≡ made_outline (outlines store) known.vectors op = outline_made store env (family op) (Ok v) v short q refl ∙ ap (λ (V : Shapes). made_outline (outlines store) V op) same in
        ap outlines (sym is) ∙ fun_ext (λ m. put_agrees env known.vectors n m v (made_outline (outlines store) known.vectors op) foretold (ap (λ (V : Shapes). V m) same) ∙ sym (learned (outlines store) known n m op (some_effect store env (family op) (Ok v) q))) ∙ made

held : (store : Env) (a : List Statement) (known after : Known) (env made : Env) → AllShort after.shape → outlines env ≡ known.vectors → check_from (outlines store) a known ≡ Ok after → run_from store a env ≡ Ok made → outlines made ≡ after.vectors
held store [] known after env made small same c r =
    let k : known ≡ after = cc in
    let e : env ≡ made = cc in
    ap outlines (sym e) ∙ same ∙ ap (λ (x : Known). x.vectors) k
held store (s ∷ a) known after env made small same c r =
    more (λ k e h x y. held store a k after e made small h x y) (fault_of (outlines store) known s.name s.op) (step store env s.name s.op) refl c r
  where
    short : check_from (outlines store) a (learn (outlines store) known s.name s.op) ≡ Ok after → (made_outline (outlines store) (outlines env) s.op).len ≤ 2 ^ 22
    short x =
        subst (λ (V : Shapes). (made_outline (outlines store) V s.op).len ≤ 2 ^ 22) (sym same)
        (short_one known.shape (learn (outlines store) known s.name s.op).shape after.shape (made_outline (outlines store) known.vectors s.op) (shape_behind known s.name s.op (outlines store) known.vectors) (grows (outlines store) a (learn (outlines store) known s.name s.op) after x) small)

    more : ((k : Known) (e : Env) → outlines e ≡ k.vectors → check_from (outlines store) a k ≡ Ok after → run_from store a e ≡ Ok made → outlines made ≡ after.vectors) → (fault : Option ProgramKind) (q : Run) → step store env s.name s.op ≡ q → then_check (after_fault known (learn (outlines store) known s.name s.op) fault) (check_from (outlines store) a) ≡ Ok after → then_run q (run_from store a) ≡ Ok made → outlines made ≡ after.vectors
    more rest (Some kind) q e x y = absurd cc
    more rest None (Err o) e x y = absurd cc
    more rest None (Ok now) e x y = rest (learn (outlines store) known s.name s.op) now (outline_one store env known (learn (outlines store) known s.name s.op) now s.name s.op (short x) same refl e) x y

pub outlines_hold : (store : Env) (a : List Statement) (known after : Known) (env made : Env) → limit_of after.shape ≡ None → outlines env ≡ known.vectors → check_from (outlines store) a known ≡ Ok after → run_from store a env ≡ Ok made → outlines made ≡ after.vectors
outlines_hold store a known after env made small same c r = held store a known after env made (λ k d h. all_short 1 after.shape small k d h) same c r
