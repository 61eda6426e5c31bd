-- What the tests of an operator say, where none of them fails.
use Rattle.std.proofs.Common.{◌≡◌, ℕ, ℤ, ◌*◌, ◌≤◌, ◌^◌, Bool, true, false, ◌||◌, not, List, [], ◌∷◌, ◌++◌, length, map, refl, sym, ap, ◌∙◌, subst, arith, nat_lt, Option, Some, None, if◌then◌else◌}
use Rattle.std.specs.Prelude.{is_none, is_some}
use Rattle.std.specs.Option.{option_map}
use Rattle.std.specs.List.{list_any}
use Rattle.std.specs.Map.{lookup}
use Rattle.std.specs.Str.{bytes_eq}
use Rattle.std.proofs.lemmas.Bool.{false≢true}
use Rattle.std.proofs.lemmas.Bool.Decides.{nat_tests}
use Rattle.std.proofs.lemmas.List.Elements.{All-nil, All-cons}
use Rattle.std.proofs.lemmas.Slice.Eq.{bytes_eq-Decides}
use Rattle.control_vectors.specs.Controls.{Control}
use Rattle.key_paths.specs.Substructures.{is_root, is_before}
use Rattle.programs.specs.declared.op.Size.{Size}
use Rattle.programs.specs.declared.op.Operand.{Operand}
use Rattle.programs.specs.declared.op.Operand.TheVariants as operand
use Rattle.programs.specs.declared.op.PairArgs.{PairArgs}
use Rattle.programs.specs.declared.op.FoldArgs.{FoldArgs}
use Rattle.programs.specs.declared.op.RankArgs.{RankArgs}
use Rattle.programs.specs.declared.order_keys.OrderPath.{OrderPath}
use Rattle.programs.specs.Families.{Family, Load, Range, Cross, Zip, Project, Upsert, Gather, Scatter, Rank, Fold, Order, Pair, BitShift}
use Rattle.programs.specs.declared.family.FoldOperator.{FoldOperator}
use Rattle.programs.specs.declared.family.RankOperator.{RankOperator}
use Rattle.control_vectors.specs.declared.PairKind.{PairKind}
use Rattle.programs.specs.declared.op.ProgramKind.{ProgramKind}
use Rattle.programs.specs.Mentions.{Label, operand_names, size_names, has_name}
use Rattle.programs.specs.Vectors.{Attribute, Vector, Env, known}
use Rattle.programs.specs.Merges.{merged}
use Rattle.programs.specs.Moves as paths
use Rattle.programs.specs.Outlines.{Outline, outlined, Shapes, outlines, outline_of, len_in, paths_in}
use Rattle.programs.specs.MadeOutlines.{size_in, capped, operand_len_in, pair_len_in, made_by}
use Rattle.programs.specs.Faults.{unknown_by, lacks_path, lacks_below, lacks_operand, lacks_by, endless, path_clash, too_deep, has_many_keys, first_fault, tests_by}
use Rattle.voodoo_ops.specs.Attributes.{zipped, projected, upserted}
use Rattle.voodoo_ops.specs.Ranges.{crossed}
use Rattle.voodoo_ops.specs.Meaning.{size_of}
use Rattle.voodoo_ops.specs.Reading.{HasAttribute, HasOperand, HasKeys, IsNamed, CanPair, CanFold, CanRank}
use Rattle.voodoo_ops.specs.Fits.{Fits}
use Rattle.voodoo_ops.proofs.Outlining.{outline_known, len_known, paths_known, size_same, outline_zipped, outline_crossed, outline_projected, outline_upserted}

if_none : (b : Bool) (k : ProgramKind) (o : Option ProgramKind) → (if b then Some k else o) ≡ None → (b ≡ false) × (o ≡ None)
if_none true k o e = absurd cc
if_none false k o e = (refl, e)

-- none of the tests holds
pub record Clear (T V : Shapes) (op : Family) : Type 0 where
  pub names : unknown_by T V op ≡ false
  pub paths : lacks_by V op ≡ false
  pub apart : path_clash (made_by T V op) ≡ false
  pub shallow : too_deep (made_by T V op) ≡ false
  pub few : has_many_keys op ≡ false

pub clear_of : (T V : Shapes) (op : Family) → first_fault (tests_by T V op) ≡ None → Clear T V op
clear_of T V op e =
    let a = if_none (unknown_by T V op) _ _ e in
    let b = if_none (lacks_by V op) _ _ a.1 in
    let c = if_none (endless op) _ _ b.1 in
    let d = if_none (path_clash (made_by T V op)) _ _ c.1 in
    let f = if_none (too_deep (made_by T V op)) _ _ d.1 in
    let g = if_none (has_many_keys op) _ _ f.1 in
    record { names = a.0; paths = b.0; apart = d.0; shallow = f.0; few = g.0 }

or_false : (a b : Bool) → (a || b) ≡ false → (a ≡ false) × (b ≡ false)
or_false true b e = absurd cc
or_false false b e = (refl, e)

not_false : (b : Bool) → not b ≡ false → b ≡ true
not_false true e = refl
not_false false e = absurd cc

-- ---- vectors and attributes that are there
some_of : (o : Option Vector) → is_none (option_map outline_of o) ≡ false → is_some o ≡ true
some_of None e = absurd cc
some_of (Some v) e = refl

bytes_eq-sym : (x y : Label) → bytes_eq x y ≡ true → bytes_eq y x ≡ true
bytes_eq-sym x y e = (bytes_eq-Decides y x).1 (sym ((bytes_eq-Decides x y).0 e))

found_path : (p : Label) (ts : List Attribute) → has_name (map (λ t. t.0) ts) p ≡ true → is_some (lookup (bytes_eq p) ts) ≡ true
found_path p [] e = absurd cc
found_path p (t ∷ ts) e = by (bytes_eq t.0 p) (bytes_eq p t.0) (bytes_eq-sym t.0 p) e (found_path p ts)
  where
    by : (b c : Bool) → (b ≡ true → c ≡ true) → (b || has_name (map (λ u. u.0) ts) p) ≡ true → (has_name (map (λ u. u.0) ts) p ≡ true → is_some (lookup (bytes_eq p) ts) ≡ true) → is_some (if c then Some t.1 else lookup (bytes_eq p) ts) ≡ true
    by b true h e rest = refl
    by true false h e rest = absurd (false≢true (h refl))
    by false false h e rest = rest e

attribute_there : (env : Env) (a p : Label) → is_none (outlines env a) ≡ false → lacks_path (outlines env) a p ≡ false → HasAttribute env a p
attribute_there env a p e l =
    let has = not_false (has_name (paths_in (outlines env) a) p) l in
    (some_of (env a) e, found_path p (known (env a)).attributes (ap (λ (l : List Label). has_name l p) (sym (paths_known env a)) ∙ has))

operand_there : (env : Env) (x : Operand) → list_any (λ a. is_none (outlines env a)) (operand_names x) ≡ false → lacks_operand (outlines env) x ≡ false → HasOperand env x
operand_there env (operand.Column a p) e l = attribute_there env a p (or_false (is_none (outlines env a)) false e).0 l
operand_there env (operand.Number z) e l = tt

list_any_front : (V : Shapes) (xs ys : List Label) → list_any (λ a. is_none (V a)) (xs ++ ys) ≡ false → (list_any (λ a. is_none (V a)) xs ≡ false) × (list_any (λ a. is_none (V a)) ys ≡ false)
list_any_front V [] ys e = (refl, e)
list_any_front V (a ∷ xs) ys e =
    let q = or_false (is_none (V a)) (list_any (λ b. is_none (V b)) (xs ++ ys)) e in
    let r = list_any_front V xs ys q.1 in
    (ap (λ (b : Bool). b || list_any (λ c. is_none (V c)) xs) q.0 ∙ r.0, r.1)

root_clear : (n : ℕ) (p : Label) → path_clash (outlined n (p ∷ [])) ≡ false → IsNamed p
root_clear n p e = (or_false (is_root p) false (or_false (is_root p || false) (not true) e).0).0

-- ---- families of operators
pub pair_fits : (store env : Env) (kind : PairKind) (args : PairArgs) → Fits (outlines store) (outlines env) (Pair kind args) → CanPair env args
pair_fits store env kind args f =
    let c = clear_of (outlines store) (outlines env) (Pair kind args) f.sound in
    let n = list_any_front (outlines env) (operand_names args.x) (operand_names args.y) c.names in
    let p = or_false (lacks_operand (outlines env) args.x) (lacks_operand (outlines env) args.y) c.paths in
    record {
      x = operand_there env args.x n.0 p.0;
      y = operand_there env args.y n.1 p.1;
      named = root_clear (pair_len_in (outlines env) args.x args.y) args.out c.apart;
    }

pub fold_fits : (store env : Env) (kind : FoldOperator) (args : FoldArgs) → Fits (outlines store) (outlines env) (Fold kind args) → CanFold env args
fold_fits store env kind args f =
    let c = clear_of (outlines store) (outlines env) (Fold kind args) f.sound in
    let n = or_false (is_none (outlines env args.a)) false c.names in
    let p = or_false (lacks_path (outlines env) args.a args.val) (lacks_below (outlines env) args.a args.run) c.paths in
    record {
      value = attribute_there env args.a args.val n.0 p.0;
      named = root_clear (len_in (outlines env) args.a) args.out c.apart;
    }

pub rank_fits : (store env : Env) (kind : RankOperator) (args : RankArgs) → Fits (outlines store) (outlines env) (Rank kind args) → CanRank env args
rank_fits store env kind args f =
    let c = clear_of (outlines store) (outlines env) (Rank kind args) f.sound in
    let n = or_false (is_none (outlines env args.a)) (is_none (outlines env args.b) || false) c.names in
    let m = or_false (is_none (outlines env args.b)) false n.1 in
    let p = or_false (lacks_path (outlines env) args.a args.key) (lacks_path (outlines env) args.b args.pivot) c.paths in
    record {
      key = attribute_there env args.a args.key n.0 p.0;
      pivot = attribute_there env args.b args.pivot m.0 p.1;
      named = root_clear (len_in (outlines env) args.a) args.out c.apart;
    }

-- ---- the others
pub load_fits : (store env : Env) (t : Label) → Fits (outlines store) (outlines env) (Load t) → is_some (store t) ≡ true
load_fits store env t f = some_of (store t) (clear_of (outlines store) (outlines env) (Load t) f.sound).names

pub range_fits : (store env : Env) (size : Size) (p : Label) (control : Control) → Fits (outlines store) (outlines env) (Range size p control) → (size_of env size ≤ 2 ^ 22) × IsNamed p
range_fits store env size p control f =
    (subst (λ n. n ≤ 2 ^ 22) (size_same env size) f.small, root_clear (size_in (outlines env) size) p (clear_of (outlines store) (outlines env) (Range size p control) f.sound).apart)

-- the vector of the one name that an operator mentions
pub copy_fits : (store env : Env) (a : Label) (op : Family) → unknown_by (outlines store) (outlines env) op ≡ (is_none (outlines env a) || false) → Fits (outlines store) (outlines env) op → is_some (env a) ≡ true
copy_fits store env a op en f = some_of (env a) (or_false (is_none (outlines env a)) false (sym en ∙ (clear_of (outlines store) (outlines env) op f.sound).names)).0

both_there : (env : Env) (a b : Label) → (is_none (outlines env a) || (is_none (outlines env b) || false)) ≡ false → (is_none (outlines env a) ≡ false) × (is_none (outlines env b) ≡ false)
both_there env a b e =
    let p = or_false (is_none (outlines env a)) (is_none (outlines env b) || false) e in
    (p.0, (or_false (is_none (outlines env b)) false p.1).0)

pub zip_fits : (store env : Env) (a b : Label) → Fits (outlines store) (outlines env) (Zip a b) → (is_some (env a) ≡ true) × (is_some (env b) ≡ true) × (path_clash (outline_of (zipped (known (env a)) (known (env b)))) ≡ false)
zip_fits store env a b f =
    let c = clear_of (outlines store) (outlines env) (Zip a b) f.sound in
    let p = both_there env a b c.names in
    let clear = rw (outline_known (env a), outline_known (env b)) at c.apart in
    (some_of (env a) p.0, some_of (env b) p.1, ap path_clash (outline_zipped (known (env a)) (known (env b))) ∙ clear)

two_named : (n : ℕ) (p q : Label) → path_clash (outlined n (merged is_before (p ∷ []) (q ∷ []))) ≡ false → IsNamed p × IsNamed q
two_named n p q e = by (is_before q p) e
  where
    by : (b : Bool) → path_clash (outlined n (if b then q ∷ p ∷ [] else p ∷ q ∷ [])) ≡ false → IsNamed p × IsNamed q
    by true h = let r = or_false (is_root q) (is_root p || false) (or_false (is_root q || (is_root p || false)) _ h).0 in ((or_false (is_root p) false r.1).0, r.0)
    by false h = let r = or_false (is_root p) (is_root q || false) (or_false (is_root p || (is_root q || false)) _ h).0 in (r.0, (or_false (is_root q) false r.1).0)

pub record CanCross (env : Env) (a p b q : Label) : Type 0 where
  pub first : is_some (env a) ≡ true
  pub second : is_some (env b) ≡ true
  pub short : (known (env a)).len * (known (env b)).len ≤ 2 ^ 22
  pub left : IsNamed p
  pub right : IsNamed q
  pub clear : path_clash (outline_of (crossed (known (env a)).len p (known (env b)).len q)) ≡ false

capped_short : (n : ℕ) → capped n ≤ 2 ^ 22 → n ≤ 2 ^ 22
capped_short n h = omega (arith, h)

pub cross_fits : (store env : Env) (a p b q : Label) → Fits (outlines store) (outlines env) (Cross a p b q) → CanCross env a p b q
cross_fits store env a p b q f =
    let c = clear_of (outlines store) (outlines env) (Cross a p b q) f.sound in
    let there = both_there env a b c.names in
    let named = two_named (capped (len_in (outlines env) a * len_in (outlines env) b)) p q c.apart in
    let short = capped_short (len_in (outlines env) a * len_in (outlines env) b) f.small in
    record {
      first = some_of (env a) there.0;
      second = some_of (env b) there.1;
      short = rw (len_known env a, len_known env b) at short;
      left = named.0;
      right = named.1;
      clear = ap path_clash (outline_crossed (known (env a)).len (known (env b)).len p q) ∙ c.apart;
    }

pub project_fits : (store env : Env) (a p q : Label) → Fits (outlines store) (outlines env) (Project a p q) → (is_some (env a) ≡ true) × (path_clash (outline_of (projected (known (env a)) p q)) ≡ false) × (too_deep (outline_of (projected (known (env a)) p q)) ≡ false)
project_fits store env a p q f =
    let c = clear_of (outlines store) (outlines env) (Project a p q) f.sound in
    let is = outline_projected (known (env a)) p q ∙ ap (λ (o : Outline). outlined o.len (paths.projected p q o.paths)) (sym (outline_known (env a))) in
    (some_of (env a) (or_false (is_none (outlines env a)) false c.names).0, ap path_clash is ∙ c.apart, ap too_deep is ∙ c.shallow)

pub upsert_fits : (store env : Env) (a p b q : Label) → Fits (outlines store) (outlines env) (Upsert a p b q) → (is_some (env a) ≡ true) × HasAttribute env b q × (path_clash (outline_of (upserted (known (env a)) p (known (env b)) q)) ≡ false)
upsert_fits store env a p b q f =
    let c = clear_of (outlines store) (outlines env) (Upsert a p b q) f.sound in
    let there = both_there env a b c.names in
    let is = outline_upserted (known (env a)) (known (env b)) p q ∙ ap (λ (o : Outline). outlined o.len (paths.upserted p o.paths)) (sym (outline_known (env a))) in
    (some_of (env a) there.0, attribute_there env b q there.1 c.paths, ap path_clash is ∙ c.apart)

pub gather_fits : (store env : Env) (a b pos : Label) → Fits (outlines store) (outlines env) (Gather a b pos) → (is_some (env a) ≡ true) × HasAttribute env b pos
gather_fits store env a b pos f =
    let c = clear_of (outlines store) (outlines env) (Gather a b pos) f.sound in
    let there = both_there env a b c.names in
    (some_of (env a) there.0, attribute_there env b pos there.1 c.paths)

pub scatter_fits : (store env : Env) (a : Label) (size : Size) (b pos : Label) → Fits (outlines store) (outlines env) (Scatter a size b pos) → (is_some (env a) ≡ true) × (size_of env size ≤ 2 ^ 22) × HasAttribute env b pos
scatter_fits store env a size b pos f =
    let c = clear_of (outlines store) (outlines env) (Scatter a size b pos) f.sound in
    let first = or_false (is_none (outlines env a)) (list_any (λ n. is_none (outlines env n)) (size_names size ++ b ∷ [])) c.names in
    let rest = list_any_front (outlines env) (size_names size) (b ∷ []) first.1 in
    (some_of (env a) first.0, subst (λ n. n ≤ 2 ^ 22) (size_same env size) f.small, attribute_there env b pos (or_false (is_none (outlines env b)) false rest.1).0 c.paths)

keys_there : (env : Env) (a : Label) (keys : List OrderPath) → is_none (outlines env a) ≡ false → list_any (λ k. lacks_path (outlines env) a k.path) keys ≡ false → HasKeys env a keys
keys_there env a [] e l = All-nil (λ k. HasAttribute env a k.path)
keys_there env a (k ∷ keys) e l =
    let p = or_false (lacks_path (outlines env) a k.path) (list_any (λ j. lacks_path (outlines env) a j.path) keys) l in
    All-cons (λ j. HasAttribute env a j.path) k keys (attribute_there env a k.path e p.0) (keys_there env a keys e p.1)

not_many : (n : ℕ) → nat_lt 16 n ≡ false → n ≤ 16
not_many n e = grind (arith, nat_tests)

pub order_fits : (store env : Env) (a mark out : Label) (keys : List OrderPath) → Fits (outlines store) (outlines env) (Order a mark out keys) → HasAttribute env a mark × HasKeys env a keys × (length keys ≤ 16) × IsNamed out
order_fits store env a mark out keys f =
    let c = clear_of (outlines store) (outlines env) (Order a mark out keys) f.sound in
    let there = (or_false (is_none (outlines env a)) false c.names).0 in
    let p = or_false (lacks_path (outlines env) a mark) (list_any (λ k. lacks_path (outlines env) a k.path) keys) c.paths in
    (attribute_there env a mark there p.0, keys_there env a keys there p.1, not_many (length keys) c.few, root_clear (len_in (outlines env) a) out c.apart)

pub shift_fits : (store env : Env) (x : Operand) (by : ℤ) (out : Label) → Fits (outlines store) (outlines env) (BitShift x by out) → HasOperand env x × IsNamed out
shift_fits store env x by out f =
    let c = clear_of (outlines store) (outlines env) (BitShift x by out) f.sound in
    (operand_there env x c.names c.paths, root_clear (operand_len_in (outlines env) x) out c.apart)

-- what fits, by another name of its family
pub fits_as : (T V : Shapes) (f g : Family) → f ≡ g → Fits T V g → Fits T V f
fits_as T V f g e h = subst (Fits T V) (sym e) h
