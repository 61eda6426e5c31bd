-- What is told of an operator depends on the names that it mentions alone.
use Rattle.std.proofs.Common.{◌≡◌, ℕ, ◌*◌, min, Bool, ◌||◌, not, List, [], ◌∷◌, ◌++◌, refl, ap, ◌∙◌, Option}
use Rattle.std.specs.Prelude.{is_none}
use Rattle.std.specs.List.{list_any}
use Rattle.key_paths.specs.Substructures.{is_at_or_below, is_before}
use Rattle.programs.specs.declared.op.Size.{Size}
use Rattle.programs.specs.declared.op.Size.TheVariants.{Number, Of}
use Rattle.programs.specs.declared.op.Operand.{Operand}
use Rattle.programs.specs.declared.op.Operand.TheVariants as operand
use Rattle.programs.specs.declared.op.PairArgs.{PairArgs}
use Rattle.programs.specs.Families.{Family, Load, Persist, Range, Cross, Zip, Project, Upsert, Gather, Scatter, Rank, Materialize, Break, Fold, Order, Pair, BitShift}
use Rattle.programs.specs.declared.order_keys.OrderPath.{OrderPath}
use Rattle.programs.specs.Mentions.{Label, mentioned_by, operand_names, size_names, has_name}
use Rattle.programs.specs.Merges.{merged}
use Rattle.programs.specs.Moves.{projected, upserted}
use Rattle.programs.specs.Outlines.{Outline, outlined, Shapes, known_outline, len_in, paths_in}
use Rattle.programs.specs.MadeOutlines.{size_in, capped, operand_len_in, pair_len_in, pair_outline, zipped_outline, made_by}
use Rattle.programs.specs.Faults.{unknown_by, lacks_path, lacks_below, lacks_operand, lacks_pair, lacks_by, tests_by}

abbrev pub Agree : Shapes → Shapes → List Label → Type 0
Agree V W [] = Unit {0}
Agree V W (a ∷ names) = (V a ≡ W a) × Agree V W names

agree-parts : (V W : Shapes) (xs ys : List Label) → Agree V W (xs ++ ys) → Agree V W xs × Agree V W ys
agree-parts V W [] ys h = (tt, h)
agree-parts V W (a ∷ xs) ys h = let r = agree-parts V W xs ys h.1 in ((h.0, r.0), r.1)

unknown_same : (V W : Shapes) (names : List Label) → Agree V W names → list_any (λ a. is_none (V a)) names ≡ list_any (λ a. is_none (W a)) names
unknown_same V W [] h = refl
unknown_same V W (a ∷ names) h = rw (h.0, unknown_same V W names h.1) refl

lacks_same : (V W : Shapes) (x : Operand) → Agree V W (operand_names x) → lacks_operand V x ≡ lacks_operand W x
lacks_same V W (operand.Column a p) h = ap (λ (o : Option Outline). not (has_name (known_outline o).paths p)) h.0
lacks_same V W (operand.Number z) h = refl

lacks_pair_same : (V W : Shapes) (p : PairArgs) → Agree V W (operand_names p.x ++ operand_names p.y) → lacks_pair V p ≡ lacks_pair W p
lacks_pair_same V W p h = let both = agree-parts V W (operand_names p.x) (operand_names p.y) h in rw (lacks_same V W p.x both.0, lacks_same V W p.y both.1) refl

operand_len_same : (V W : Shapes) (x : Operand) → Agree V W (operand_names x) → operand_len_in V x ≡ operand_len_in W x
operand_len_same V W (operand.Column a p) h = ap (λ (o : Option Outline). (known_outline o).len) h.0
operand_len_same V W (operand.Number z) h = refl

pair_len_same : (V W : Shapes) (x y : Operand) → Agree V W (operand_names x) → Agree V W (operand_names y) → pair_len_in V x y ≡ pair_len_in W x y
pair_len_same V W (operand.Column a p) (operand.Column b q) h k = ap (λ (o : Option Outline). min (known_outline o).len (known_outline (V b)).len) h.0 ∙ ap (λ (o : Option Outline). min (known_outline (W a)).len (known_outline o).len) k.0
pair_len_same V W (operand.Column a p) (operand.Number z) h k = ap (λ (o : Option Outline). (known_outline o).len) h.0
pair_len_same V W (operand.Number z) (operand.Column b q) h k = ap (λ (o : Option Outline). (known_outline o).len) k.0
pair_len_same V W (operand.Number z) (operand.Number w) h k = refl

pair_outline_same : (V W : Shapes) (p : PairArgs) → Agree V W (operand_names p.x ++ operand_names p.y) → pair_outline V p ≡ pair_outline W p
pair_outline_same V W p h = let both = agree-parts V W (operand_names p.x) (operand_names p.y) h in rw (pair_len_same V W p.x p.y both.0 both.1) refl

size_in_same : (V W : Shapes) (size : Size) → Agree V W (size_names size) → size_in V size ≡ size_in W size
size_in_same V W (Number n) h = refl
size_in_same V W (Of a) h = ap (λ (o : Option Outline). (known_outline o).len) h.0

lacks_path_same : (V W : Shapes) (a p : Label) → V a ≡ W a → lacks_path V a p ≡ lacks_path W a p
lacks_path_same V W a p h = ap (λ (o : Option Outline). not (has_name (known_outline o).paths p)) h

lacks_below_same : (V W : Shapes) (a p : Label) → V a ≡ W a → lacks_below V a p ≡ lacks_below W a p
lacks_below_same V W a p h = ap (λ (o : Option Outline). not (list_any (λ q. is_at_or_below q p) (known_outline o).paths)) h

lacks_keys_same : (V W : Shapes) (a : Label) (keys : List OrderPath) → V a ≡ W a → list_any (λ k. lacks_path V a k.path) keys ≡ list_any (λ k. lacks_path W a k.path) keys
lacks_keys_same V W a [] h = refl
lacks_keys_same V W a (k ∷ keys) h = ap (λ (b : Bool). b || list_any (λ j. lacks_path V a j.path) keys) (lacks_path_same V W a k.path h) ∙ ap (λ (b : Bool). lacks_path W a k.path || b) (lacks_keys_same V W a keys h)

or_same : (a b c d : Bool) → a ≡ b → c ≡ d → (a || c) ≡ (b || d)
or_same a b c d e f = rw (e, f) refl

pub made_same : (T V W : Shapes) (f : Family) → Agree V W (mentioned_by f) → made_by T V f ≡ made_by T W f
made_same T V W (Load t) h = refl
made_same T V W (Persist a) h = refl
made_same T V W (Range size p control) h = ap (λ (k : ℕ). outlined k (p ∷ [])) (size_in_same V W size h)
made_same T V W (Cross a p b q) h = ap (λ (o : Option Outline). outlined (capped ((known_outline o).len * len_in V b)) (merged is_before (p ∷ []) (q ∷ []))) h.0 ∙ ap (λ (o : Option Outline). outlined (capped (len_in W a * (known_outline o).len)) (merged is_before (p ∷ []) (q ∷ []))) h.1.0
made_same T V W (Zip a b) h = ap (λ (o : Option Outline). zipped_outline (known_outline o) (known_outline (V b))) h.0 ∙ ap (λ (o : Option Outline). zipped_outline (known_outline (W a)) (known_outline o)) h.1.0
made_same T V W (Project a p q) h = ap (λ (o : Option Outline). outlined (known_outline o).len (projected p q (known_outline o).paths)) h.0
made_same T V W (Upsert a p b q) h = ap (λ (o : Option Outline). outlined (known_outline o).len (upserted p (known_outline o).paths)) h.0
made_same T V W (Gather a b pos) h = ap (λ (o : Option Outline). outlined (len_in V b) (known_outline o).paths) h.0 ∙ ap (λ (o : Option Outline). outlined (known_outline o).len (paths_in W a)) h.1.0
made_same T V W (Scatter a size b pos) h = let parts = agree-parts V W (size_names size) (b ∷ []) h.1 in ap (λ (o : Option Outline). outlined (size_in V size) (known_outline o).paths) h.0 ∙ ap (λ (k : ℕ). outlined k (paths_in W a)) (size_in_same V W size parts.0)
made_same T V W (Rank kind r) h = ap (λ (o : Option Outline). outlined (known_outline o).len (r.out ∷ [])) h.0
made_same T V W (Materialize a) h = ap known_outline h.0
made_same T V W (Break a) h = ap known_outline h.0
made_same T V W (Fold kind f) h = ap (λ (o : Option Outline). outlined (known_outline o).len (f.out ∷ [])) h.0
made_same T V W (Order a mark out keys) h = ap (λ (o : Option Outline). outlined (known_outline o).len (out ∷ [])) h.0
made_same T V W (Pair kind p) h = pair_outline_same V W p h
made_same T V W (BitShift x by out) h = ap (λ (k : ℕ). outlined k (out ∷ [])) (operand_len_same V W x h)

unknown_name_same : (T V W : Shapes) (f : Family) → Agree V W (mentioned_by f) → unknown_by T V f ≡ unknown_by T W f
unknown_name_same T V W (Load t) h = refl
unknown_name_same T V W f h = unknown_same V W (mentioned_by f) h

path_same : (V W : Shapes) (f : Family) → Agree V W (mentioned_by f) → lacks_by V f ≡ lacks_by W f
path_same V W (Load t) h = refl
path_same V W (Persist a) h = refl
path_same V W (Range size p control) h = refl
path_same V W (Cross a p b q) h = refl
path_same V W (Zip a b) h = refl
path_same V W (Project a p q) h = lacks_below_same V W a p h.0
path_same V W (Upsert a p b q) h = lacks_path_same V W b q h.1.0
path_same V W (Gather a b pos) h = lacks_path_same V W b pos h.1.0
path_same V W (Scatter a size b pos) h = let parts = agree-parts V W (size_names size) (b ∷ []) h.1 in lacks_path_same V W b pos parts.1.0
path_same V W (Rank kind r) h = or_same (lacks_path V r.a r.key) (lacks_path W r.a r.key) (lacks_path V r.b r.pivot) (lacks_path W r.b r.pivot) (lacks_path_same V W r.a r.key h.0) (lacks_path_same V W r.b r.pivot h.1.0)
path_same V W (Materialize a) h = refl
path_same V W (Break a) h = refl
path_same V W (Fold kind f) h = or_same (lacks_path V f.a f.val) (lacks_path W f.a f.val) (lacks_below V f.a f.run) (lacks_below W f.a f.run) (lacks_path_same V W f.a f.val h.0) (lacks_below_same V W f.a f.run h.0)
path_same V W (Order a mark out keys) h = or_same (lacks_path V a mark) (lacks_path W a mark) (list_any (λ k. lacks_path V a k.path) keys) (list_any (λ k. lacks_path W a k.path) keys) (lacks_path_same V W a mark h.0) (lacks_keys_same V W a keys h.0)
path_same V W (Pair kind p) h = lacks_pair_same V W p h
path_same V W (BitShift x by out) h = lacks_same V W x h

pub tests_same : (T V W : Shapes) (f : Family) → Agree V W (mentioned_by f) → tests_by T V f ≡ tests_by T W f
tests_same T V W f h = rw (unknown_name_same T V W f h, path_same V W f h, made_same T V W f h) refl
