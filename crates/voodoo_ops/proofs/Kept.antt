-- Vectors that are read later are as they were.
use Rattle.std.proofs.Common.{◌≡◌, Bool, true, false, refl, ap, sym, ◌∙◌, subst, if◌then◌else◌, Option, Some, None, Result, Ok}
use Rattle.std.specs.Option.{option_map}
use Rattle.std.specs.Prelude.{is_some, IfSome, IfNone}
use Rattle.std.specs.Str.{bytes_eq}
use Rattle.std.proofs.lemmas.Bool.{false≢true}
use Rattle.std.proofs.lemmas.Slice.Eq.{bytes_eq-Decides}
use Rattle.control_vectors.specs.declared.Over.{Over}
use Rattle.struct_vectors.specs.Vectors.{VectorValue}
use Rattle.programs.specs.Mentions.{Label}
use Rattle.programs.specs.Vectors.{Vector, Env, put, known, seen}
use Rattle.voodoo_ops.specs.Envs.{without}
use Rattle.voodoo_ops.specs.Later.{Advances, reads, Keeps, LeavesOthers}
use Rattle.voodoo_ops.specs.Meaning.{after_effect}
use Rattle.voodoo_ops.specs.declared.later.Later.{Later}

pub seen_if : (b : Bool) (v : VectorValue) (o : Option VectorValue) → option_map seen (if b then Some v else o) ≡ (if b then Some (seen v) else option_map seen o)
seen_if true v o = refl
seen_if false v o = refl

pub seen_without : (b : Bool) (o : Option VectorValue) → option_map seen (if b then None else o) ≡ (if b then None else option_map seen o)
seen_without true o = refl
seen_without false o = refl

pub others_without : (env now : Env) (a : Label) → now ≡ without env a → LeavesOthers a env now
others_without env now a e m other = ap (λ (f : Env). f m) e ∙ ap (λ (b : Bool). if b then None else env m) other

read_other : (later : Later) (a m : Label) → reads later a ≡ false → reads later m ≡ true → bytes_eq a m ≡ false
read_other later a m off on = by (bytes_eq a m) refl
  where
    by : (b : Bool) → bytes_eq a m ≡ b → b ≡ false
    by true e = let same : a ≡ m = (bytes_eq-Decides a m).0 e in absurd (false≢true (sym off ∙ ap (reads later) same ∙ on))
    by false e = refl

pub keeps_others : (later : Later) (env now : Env) (a : Label) → reads later a ≡ false → LeavesOthers a env now → Keeps later env now
keeps_others later env now a off others m on = others m (read_other later a m off on)

pub keeps_without : (later : Later) (env now : Env) (a : Label) → reads later a ≡ false → now ≡ without env a → Keeps later env now
keeps_without later env now a off e = keeps_others later env now a off (others_without env now a e)

pub keeps_same : (later : Later) (env now : Env) → now ≡ env → Keeps later env now
keeps_same later env now e m on = ap (λ (f : Env). f m) e

pub keeps_then : (later : Later) (env middle now : Env) → Keeps later env middle → Keeps later middle now → Keeps later env now
keeps_then later env middle now h k m on = k m on ∙ h m on

pub keeps_put : (later : Later) (env middle now : Env) (n : Label) (v : Vector) → now ≡ put middle n v → Keeps later env middle → Keeps later (put env n v) now
keeps_put later env middle now n v e h m on = ap (λ (f : Env). f m) e ∙ ap (λ (o : Option Vector). if bytes_eq n m then Some v else o) (h m on)

-- ---- a vector that was taken out
pub taken_vector : (o : Option VectorValue) (e : Option Vector) → option_map seen o ≡ e → IfSome o (λ v. seen v ≡ known e)
taken_vector None e h = tt
taken_vector (Some v) e h = ap known h

pub taken_last : (o : Option VectorValue) (b : Bool) → b ≡ false → IfSome o (λ v. b ≡ false)
taken_last None b h = tt
taken_last (Some v) b h = h

pub taken_none : (o : Option VectorValue) (e : Option Vector) (env now : Env) → option_map seen o ≡ e → is_some e ≡ true → IfNone o (now ≡ env)
taken_none None e env now h some = absurd (false≢true (ap is_some h ∙ some))
taken_none (Some v) e env now h some = tt

-- ---- a statement that was run
pub advances : {A : Type 0} (later : Later) (x : A) (env middle now : Env) (n : Label) (v : Vector) (o : Option (Result Vector Over)) → o ≡ Some (Ok v) → now ≡ put middle n v → Keeps later env middle → Advances later (Ok x) (after_effect env n o) now
advances later x env middle now n v o e put_is keeps = subst (λ (p : Option (Result Vector Over)). Advances later (Ok x) (after_effect env n p) now) (sym e) (keeps_put later env middle now n v put_is keeps)
