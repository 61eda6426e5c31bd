-- Vectors under names that hold rows, and one attribute more.
use Rattle.std.proofs.Common.{◌≡◌, ℕ, ◌≤◌, true, List, [], ◌∷◌, length, arith}
use Rattle.std.specs.List.{All}
use Rattle.control_vectors.specs.Slots.{Slot}
use Rattle.programs.specs.declared.op.Op.{Op}
use Rattle.programs.specs.declared.op.Op.TheVariants as op
use Rattle.programs.specs.Mentions.{Label}
use Rattle.programs.specs.Vectors.{Vector, Env, slots_of}
use Rattle.voodoo_ops.specs.Attributes.{projected, upserted}
use Rattle.held_rows.specs.Held.{Held, Told, Holds, column, one}
use Rattle.held_rows.specs.Vectors.{IsBeside}
use Rattle.held_rows.proofs.VectorLaws.{vector_laws}
use Rattle.program_writers.specs.Names.{is_word}
use Rattle.program_writers.specs.Statements.{mark, with_attribute}
use Rattle.program_writers.specs.Writers.{make}
use Rattle.writer_runs.specs.Runs.{Makes}
use Rattle.lowered_items.proofs.Parts.{Has, Kept, has_later, NowHas, makes_upsert, makes_project}

-- a name's vector holds rows, and what these attributes tell of them
pub record Holding {A : Type 0} (held : Held A) (told : List (Told A)) (k : ℕ) (env : Env) (name : Label) : Type 0 where
  pub vector : Vector
  pub has : Has k env name vector
  pub holds : Holds vector held told

module _ {A : Type 0} (held : Held A) where
  pub holding_later : (told : List (Told A)) (k next : ℕ) (before after : Env) (name : Label) → k ≤ next → Kept k before after → Holding held told k before name → Holding held told next after name
  holding_later told k next before after name more kept h = record { vector = h.vector; has = has_later k next before after name h.vector more kept h.has; holds = h.holds }

  abbrev pub Held_by : List (Told A) → Label → ℕ → Env → Type 0
  Held_by told name next after = Holding held told next after name

  made_holding : (store : Env) (word : Label) (o : Op) (k : ℕ) (env : Env) (v : Vector) (told : List (Told A)) → Holds v held told → Makes store (make word o) k env (NowHas v) → Makes store (make word o) k env (Held_by told)
  made_holding store word o k env v told h g = record {
    after = g.after;
    ran = g.ran;
    holds = record { vector = v; has = g.holds; holds = h };
    kept = g.kept;
    ascends = g.ascends;
  }

  -- an attribute more
  pub upsert_holding : (store : Env) (word : Label) (k : ℕ) (env : Env) (a p b q : Label) (f : A → Slot) (told : List (Told A)) (w : Vector) → is_word word ≡ true
      → Holding held told k env a → Has k env b w → slots_of w.attributes q ≡ column f held → All (IsBeside p) told → Makes store (make word (with_attribute a p b q)) k env (Held_by ((p, f) ∷ told))
  upsert_holding store word k env a p b q f told w is h g e off =
      made_holding store word (with_attribute a p b q) k env (upserted h.vector p w q) ((p, f) ∷ told)
      (vector_laws.upsert h.vector w p q held f told h.holds e off)
      (makes_upsert store word k env is a p b q h.vector w h.has g)

  -- the mark alone
  pub mark_holding : (store : Env) (word : Label) (k : ℕ) (env : Env) (a : Label) (v : Vector) → is_word word ≡ true → Has k env a v → v.len ≡ length held → slots_of v.attributes mark ≡ column one held
      → Makes store (make word (op.Project a mark mark)) k env (Held_by ((mark, one) ∷ []))
  mark_holding store word k env a v is h long e =
      made_holding store word (op.Project a mark mark) k env (projected v mark mark) ((mark, one) ∷ [])
      (vector_laws.project v mark mark held one (omega arith) (omega arith) long e)
      (makes_project store word k env is a mark mark v h)
