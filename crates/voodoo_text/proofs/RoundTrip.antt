-- A program's text is read as that program, each statement on a line of its own.
use Rattle.phrases.specs.Parsers.{pure, ◌>>=◌}
use Rattle.std.proofs.Common.{◌≡◌, ℕ, ℤ, pos, negsuc, ◌^◌, ◌+◌, ◌-◌, ◌<◌, true, false, not, List, [], ◌∷◌, ◌++◌, length, map, lit<, refl, ap, sym, ◌∙◌, arith, append_assoc, append-nil}
use Rattle.std.specs.Prelude.{Option, Some, Result, Ok, codes, neg_ℤ, ◌≤ℤ◌, nat_lt, ◌==◌}
use Rattle.std.specs.Fmt.{decimal, signed_decimal}
use Rattle.std.specs.List.{list_all, range_with_len}
use Rattle.std.specs.Option.{option_map}
use Rattle.std.specs.Str.{bytes_eq, IsAscii}
use Rattle.std.proofs.lemmas.Bool.{and_parts, and_right, le-leb, ltb-true}
use Rattle.std.proofs.lemmas.Bool.Decides.{nat_tests}
use Rattle.std.proofs.lemmas.Int.{ints}
use Rattle.std.proofs.lemmas.List.Splits.{slice_split_at}
use Rattle.std.proofs.lemmas.Str.{IsUtf8-from_ascii, IsAscii-append, is_utf8-from_IsUtf8}
use Rattle.std.proofs.lemmas.Str.Ascii.{IsAscii-nil, IsAscii-cons}
use Rattle.control_vectors.specs.Controls.{Control, IsAdmissible}
use Rattle.key_paths.specs.Paths.{IsPath}
use Rattle.programs.specs.declared.op.Size.{Size}
use Rattle.programs.specs.declared.op.Operand.{Operand}
use Rattle.programs.specs.declared.order_keys.OrderPath.{OrderPath}
use Rattle.voodoo_text.specs.declared.read_text.ReadProgram.{ReadProgram}
use Rattle.voodoo_text.specs.declared.refusal.TextRefusal.{TextRefusal}
use Rattle.programs.specs.declared.op.Op.{Op}
use Rattle.programs.specs.declared.op.Op.TheVariants.{Load, Persist, Range, Cross, Zip, Project, Upsert, Gather, Scatter, Bucket, Partition, Materialize, Break, FoldSum, FoldMin, FoldMax, FoldSelect, FoldScan, Order, Add, Subtract, Multiply, Divide, Modulo, BitShift, Greater, Equals, LogicalAnd, LogicalOr, Fill}
use Rattle.programs.specs.declared.op.PairArgs.{PairArgs}
use Rattle.programs.specs.declared.op.FoldArgs.{FoldArgs}
use Rattle.programs.specs.declared.op.RankArgs.{RankArgs}
use Rattle.programs.specs.declared.op.Statement.{Statement}
use Rattle.voodoo_text.specs.declared.kind.Kind.TheVariants as k
use Rattle.voodoo_text.specs.declared.operator.Operator.{Operator}
use Rattle.voodoo_text.specs.declared.operator.Operator.TheVariants as o
use Rattle.voodoo_text.specs.declared.operator.SingleOperator.{SingleOperator}
use Rattle.voodoo_text.specs.declared.operator.SingleOperator.TheVariants as s
use Rattle.programs.specs.declared.family.RankOperator.{RankOperator}
use Rattle.programs.specs.declared.family.RankOperator.TheVariants as r
use Rattle.programs.specs.declared.family.FoldOperator.{FoldOperator}
use Rattle.programs.specs.declared.family.FoldOperator.TheVariants as f
use Rattle.control_vectors.specs.declared.PairKind.{PairKind}
use Rattle.control_vectors.specs.declared.PairKind.TheVariants as q
use Rattle.programs.specs.Families.{family, pair_of, fold_of, rank_of}
use Rattle.voodoo_text.specs.Kinds.{same_kind}
use Rattle.voodoo_text.specs.Values.{Bytes, integer_within, natural_within, is_start, admitted}
use Rattle.voodoo_text.specs.Tokens.{Token, token, tokens_from, tokens}
use Rattle.voodoo_text.specs.Operators.{operator_of, operator_word, single_word, rank_word, fold_word, pair_word}
use Rattle.voodoo_text.specs.Places.{Parser, expect, name, path, control, size, operand, number, next}
use Rattle.voodoo_text.specs.Statements as spec
use Rattle.voodoo_text.specs.Statements.{arguments, statement, line_of}
use Rattle.voodoo_text.specs.Canonical.{pair_arguments, fold_arguments, rank_arguments, range_arguments, target, listed, call, statement_text, line, text_of}
use Rattle.voodoo_text.specs.Canonical as canonical
use Rattle.voodoo_text.specs.Spelled.{IsName, IsShift, HasNames, PairHasNames, RankHasNames, SizeHasName, OperandHasName, CanBeSpelled, InRange, PairInRange, FoldInRange, RankInRange, SizeInRange, OperandInRange, KeysInRange, HasRanges}
use Rattle.voodoo_text.specs.Reading.{is_feed, lines, read, on_line, with_statement, with_line, read_lines, read_text}
use Rattle.voodoo_text.specs.Laws.{line_by_line, IsTextOf, TextLaws}
use Rattle.key_paths.proofs.Bools.{all_ascii, all_both, none_passes, all_weaker}
use Rattle.voodoo_text.proofs.Numbers.{Within}
use Rattle.voodoo_text.proofs.Words.{word_named, word_name}
use Rattle.voodoo_text.proofs.Lexing.{comma_ends, close_ends, name_ends, name_then, open_then, equal_then, comma_then, close_then}
use Rattle.voodoo_text.proofs.Spelling.{is_plain, others_group, next_group, first_attribute, next_attribute, Listed, Others, nothing_more, one_more, first_one, and_made, keys_more, name_spells, path_spells, size_spells, operand_spells, integer_spells, natural_spells, plain_name}

-- ---- the arguments of each operator

within_start : (z : ℤ) → neg_ℤ (pos (2 ^ 62)) ≤ℤ z → z ≤ℤ pos (2 ^ 62) → Within (2 ^ 63) (2 ^ 63 - 1) z
within_start (pos n) low high = omega (arith, ints)
within_start (negsuc n) low high = omega (arith, ints)

starts : (z : ℤ) → neg_ℤ (pos (2 ^ 62)) ≤ℤ z → z ≤ℤ pos (2 ^ 62) → is_start z ≡ true
starts (pos n) low high = grind (arith, nat_tests, ints)
starts (negsuc n) low high = grind (arith, nat_tests, ints)

admitted_is : (v : Control) → IsAdmissible v → admitted v.start v.step v.modulus v.divisor ≡ Some v
admitted_is v is =
    rw (starts v.start is.start_from is.start_to, le-leb v.step (2 ^ 31) is.step_to, le-leb v.modulus (2 ^ 31) is.modulus_to, le-leb 1 v.divisor is.divisor_from, le-leb v.divisor (2 ^ 31) is.divisor_to) refl

within_shift : (z : ℤ) → IsShift z → Within 127 127 z
within_shift (pos n) h = omega (arith, ints)
within_shift (negsuc n) h = omega (arith, ints)

abbrev natural : Parser ℕ
natural = number (natural_within (2 ^ 64 - 1))

-- the numbers of a control vector are four arguments
control_more : {B : Type 0} (g : Option Control → Parser B) (v : Control) (b : B) → IsAdmissible v → Others (g (Some v)) [] b
    → Others (next control >>= g) (signed_decimal v.start ∷ decimal v.step ∷ decimal v.modulus ∷ decimal v.divisor ∷ []) b
unfolding control
control_more g v b adm others =
    next_group (number (integer_within (2 ^ 63) (2 ^ 63 - 1))) from_start g _ b
    (one_more _ (λ x. from_start x >>= g) _ _ v.start _ (integer_spells (2 ^ 63) (2 ^ 63 - 1) v.start (lit< tt) (lit< tt) (within_start v.start adm.start_from adm.start_to))
    (others_group (next natural) (from_step v.start) g _ b
    (one_more _ (λ x. from_step v.start x >>= g) _ _ v.step _ (natural_spells (2 ^ 64 - 1) v.step (lit< tt) (omega (arith, adm.step_to)))
    (others_group (next natural) (from_modulus v.start v.step) g _ b
    (one_more _ (λ x. from_modulus v.start v.step x >>= g) _ _ v.modulus _ (natural_spells (2 ^ 64 - 1) v.modulus (lit< tt) (omega (arith, adm.modulus_to)))
    (others_group (next natural) (from_divisor v.start v.step v.modulus) g _ b
    (one_more _ (λ x. from_divisor v.start v.step v.modulus x >>= g) _ _ v.divisor _ (natural_spells (2 ^ 64 - 1) v.divisor (lit< tt) (omega (arith, adm.divisor_to)))
    (record { reads = λ rest. ap (λ c. g c (tokens_from false 0 (41 ∷ rest))) (admitted_is v adm) ∙ others.reads rest; inside = others.inside }))))))))
  where
    from_divisor : ℤ → ℕ → ℕ → ℕ → Parser (Option Control)
    from_divisor start step modulus divisor = pure (admitted start step modulus divisor)

    from_modulus : ℤ → ℕ → ℕ → Parser (Option Control)
    from_modulus start step modulus = next natural >>= from_divisor start step modulus

    from_step : ℤ → ℕ → Parser (Option Control)
    from_step start step = next natural >>= from_modulus start step

    from_start : ℤ → Parser (Option Control)
    from_start start = next natural >>= from_step start

range_listed : (n : Size) (out : Bytes) (v : Control) → SizeHasName n → SizeInRange n → IsPath out → IsAdmissible v → Listed spec.range (range_arguments n out v) (Some (Range n out v))
unfolding spec.range
range_listed n out v named ranged is adm =
    first_one size _ _ _ n _ (size_spells n named ranged)
    (one_more path _ _ _ out _ (path_spells out is)
    (control_more (λ c. pure (option_map (Range n out) c)) v (Some (Range n out v)) adm (nothing_more (Some (Range n out v)))))

pair_listed : (args : PairArgs) → PairHasNames args → PairInRange args → Listed spec.pair (pair_arguments args) args
unfolding spec.pair
pair_listed args names ranges =
    first_one operand _ _ _ args.x _ (operand_spells args.x names.0 ranges.0)
    (one_more operand _ _ _ args.y _ (operand_spells args.y names.1 ranges.1)
    (one_more path _ _ _ args.out _ (path_spells args.out ranges.2) (nothing_more args)))

fold_listed : (args : FoldArgs) → IsName args.a → FoldInRange args → Listed spec.fold (fold_arguments args) args
unfolding spec.fold
fold_listed args named ranges =
    first_attribute _ args.a args.val _ _ named ranges.0
    (one_more path _ _ _ args.run _ (path_spells args.run ranges.1)
    (one_more path _ _ _ args.out _ (path_spells args.out ranges.2) (nothing_more args)))

pub rank_listed : (args : RankArgs) → RankHasNames args → RankInRange args → Listed spec.rank (rank_arguments args) args
unfolding spec.rank
rank_listed args names ranges =
    first_attribute _ args.a args.key _ _ names.0 ranges.0
    (next_attribute _ args.b args.pivot _ _ names.1 ranges.1
    (one_more path _ _ _ args.out _ (path_spells args.out ranges.2) (nothing_more args)))

load_listed : (t : Bytes) → IsName t → Listed spec.load (t ∷ []) (Load t)
unfolding spec.load
load_listed t h = first_one name _ _ _ t _ (name_spells t h) (nothing_more (Load t))

cross_listed : (a p b q : Bytes) → IsName a × IsName b → IsPath p × IsPath q → Listed spec.cross (a ∷ p ∷ b ∷ q ∷ []) (Cross a p b q)
unfolding spec.cross
cross_listed a p b q names ranges =
    first_attribute _ a p _ _ names.0 ranges.0 (next_attribute _ b q _ _ names.1 ranges.1 (nothing_more (Cross a p b q)))

zip_listed : (a b : Bytes) → IsName a × IsName b → Listed spec.zip (a ∷ b ∷ []) (Zip a b)
unfolding spec.zip
zip_listed a b names = first_one name _ _ _ a _ (name_spells a names.0) (one_more name _ _ _ b _ (name_spells b names.1) (nothing_more (Zip a b)))

project_listed : (a p q : Bytes) → IsName a → IsPath p × IsPath q → Listed spec.project (a ∷ p ∷ q ∷ []) (Project a p q)
unfolding spec.project
project_listed a p q named ranges = first_attribute _ a p _ _ named ranges.0 (one_more path _ _ _ q _ (path_spells q ranges.1) (nothing_more (Project a p q)))

upsert_listed : (a p b q : Bytes) → IsName a × IsName b → IsPath p × IsPath q → Listed spec.upsert (a ∷ p ∷ b ∷ q ∷ []) (Upsert a p b q)
unfolding spec.upsert
upsert_listed a p b q names ranges =
    first_attribute _ a p _ _ names.0 ranges.0 (next_attribute _ b q _ _ names.1 ranges.1 (nothing_more (Upsert a p b q)))

gather_listed : (a b at : Bytes) → IsName a × IsName b → IsPath at → Listed spec.gather (a ∷ b ∷ at ∷ []) (Gather a b at)
unfolding spec.gather
gather_listed a b at names is =
    first_one name _ _ _ a _ (name_spells a names.0) (next_attribute _ b at _ _ names.1 is (nothing_more (Gather a b at)))

scatter_listed : (a : Bytes) (n : Size) (b at : Bytes) → IsName a × SizeHasName n × IsName b → SizeInRange n × IsPath at → Listed spec.scatter (a ∷ canonical.size_text n ∷ b ∷ at ∷ []) (Scatter a n b at)
unfolding spec.scatter
scatter_listed a n b at names ranges =
    first_one name _ _ _ a _ (name_spells a names.0)
    (one_more size _ _ _ n _ (size_spells n names.1 ranges.0)
    (next_attribute _ b at _ _ names.2 ranges.1 (nothing_more (Scatter a n b at))))

materialize_listed : (a : Bytes) → IsName a → Listed spec.materialize (a ∷ []) (Materialize a)
unfolding spec.materialize
materialize_listed a h = first_one name _ _ _ a _ (name_spells a h) (nothing_more (Materialize a))

break_listed : (a : Bytes) → IsName a → Listed spec.break_ (a ∷ []) (Break a)
unfolding spec.break_
break_listed a h = first_one name _ _ _ a _ (name_spells a h) (nothing_more (Break a))

order_listed : (a mark out : Bytes) (ks : List OrderPath) → IsName a → IsPath mark × IsPath out × KeysInRange ks → Listed spec.order (a ∷ mark ∷ out ∷ map canonical.key_text ks) (Order a mark out ks)
unfolding spec.order
order_listed a mark out ks named ranges =
    first_attribute _ a mark _ _ named ranges.0
    (one_more path _ _ _ out _ (path_spells out ranges.1) (keys_more (Order a mark out) ks ranges.2))

shift_listed : (x : Operand) (by : ℤ) (out : Bytes) → OperandHasName x × IsShift by → OperandInRange x × IsPath out → Listed spec.bit_shift (canonical.operand_text x ∷ signed_decimal by ∷ out ∷ []) (BitShift x by out)
unfolding spec.bit_shift
shift_listed x by out names ranges =
    first_one operand _ _ _ x _ (operand_spells x names.0 ranges.0)
    (one_more _ _ _ _ by _ (integer_spells 127 127 by (lit< tt) (lit< tt) (within_shift by names.1))
    (one_more path _ _ _ out _ (path_spells out ranges.1) (nothing_more (BitShift x by out))))

-- ---- the tokens of a line

open_tokens : (w : Bytes) (ws : List Bytes) → IsName w → tokens_from false 0 (call w ws) ≡ token k.Name w ∷ token k.Open (40 ∷ []) ∷ tokens_from false 0 (listed ws ++ 41 ∷ [])
open_tokens w ws h = name_then false w 40 (listed ws ++ 41 ∷ []) h refl ∙ ap (λ ts. token k.Name w ∷ ts) (open_then true (listed ws ++ 41 ∷ []))

assigned_tokens : (n w : Bytes) (ws : List Bytes) → IsName n → IsName w
    → tokens ((n ++ codes " = ") ++ call w ws) ≡ token k.Name n ∷ token k.Equal (61 ∷ []) ∷ token k.Name w ∷ token k.Open (40 ∷ []) ∷ tokens_from false 0 (listed ws ++ 41 ∷ [])
assigned_tokens n w ws h is =
    ap tokens (append_assoc n (codes " = ") (call w ws))
    ∙ name_then false n 32 (61 ∷ 32 ∷ call w ws) h refl
    ∙ ap (λ ts. token k.Name n ∷ ts) (equal_then false (32 ∷ call w ws) ∙ ap (λ ts. token k.Equal (61 ∷ []) ∷ ts) (open_tokens w ws is))

assigned_line : (n w : Bytes) (a : Operator) (op : Op) (ts : List Token) → operator_of w ≡ Some a → arguments a ts ≡ Ok (Some op, token k.Close (41 ∷ []) ∷ [])
    → line_of (token k.Name n ∷ token k.Equal (61 ∷ []) ∷ token k.Name w ∷ token k.Open (40 ∷ []) ∷ ts) ≡ Ok (statement n op)
unfolding line_of spec.at_end spec.statement_of spec.after_word spec.assigned spec.operator expect same_kind
assigned_line n w a op ts e h = rw (and_right (bytes_eq n (codes "Persist")) false refl, e, h) refl

-- a text of one line that is read as a statement
pub record LineReads (text : Bytes) (s : Statement) : Type 0 where
  pub reads : line_of (tokens text) ≡ Ok s
  pub inside : list_all is_plain text ≡ true

plain_call : (w : Bytes) (ws : List Bytes) → IsName w → list_all is_plain (listed ws) ≡ true → list_all is_plain (call w ws) ≡ true
plain_call w ws is h = all_both is_plain w (40 ∷ (listed ws ++ 41 ∷ [])) (plain_name w is) (all_both is_plain (listed ws) (41 ∷ []) h refl)

assigned_reads : (n w : Bytes) (a : Operator) (ws : List Bytes) (op : Op) → IsName n → IsName w → operator_of w ≡ Some a → Listed (arguments a) ws (Some op) → LineReads ((n ++ codes " = ") ++ call w ws) (statement n op)
assigned_reads n w a ws op h is e l = record {
  reads = ap line_of (assigned_tokens n w ws h is) ∙ assigned_line n w a op (tokens_from false 0 (listed ws ++ 41 ∷ [])) e (l.reads [] ∙ ap (λ (ts : List Token). Ok (Some op, ts)) (close_then false []));
  inside = all_both is_plain (n ++ codes " = ") (call w ws) (all_both is_plain n (codes " = ") (plain_name n h) refl) (plain_call w ws is l.inside);
}

persist_line : (n a : Bytes) → line_of (token k.Name (codes "Persist") ∷ token k.Open (40 ∷ []) ∷ token k.Name n ∷ token k.Comma (44 ∷ []) ∷ token k.Name a ∷ token k.Close (41 ∷ []) ∷ []) ≡ Ok (statement n (Persist a))
unfolding line_of spec.at_end spec.statement_of spec.after_word spec.persisted expect same_kind
persist_line n a = refl

pair_tokens : (n a : Bytes) → IsName n → IsName a → tokens_from false 0 (listed (n ∷ a ∷ []) ++ 41 ∷ []) ≡ token k.Name n ∷ token k.Comma (44 ∷ []) ∷ token k.Name a ∷ token k.Close (41 ∷ []) ∷ []
pair_tokens n a h is =
    ap (tokens_from false 0) (append_assoc n (44 ∷ 32 ∷ (a ++ [])) (41 ∷ []))
    ∙ name_ends n 44 (32 ∷ ((a ++ []) ++ 41 ∷ [])) h comma_ends
    ∙ ap (λ ts. token k.Name n ∷ ts) (comma_then false (32 ∷ ((a ++ []) ++ 41 ∷ []))
    ∙ ap (λ ts. token k.Comma (44 ∷ []) ∷ ts) (ap (λ (z : Bytes). tokens_from false 0 (z ++ 41 ∷ [])) (append-nil a)
    ∙ name_ends a 41 [] is close_ends ∙ ap (λ ts. token k.Name a ∷ ts) (close_then false [])))

persist_reads : (n a : Bytes) → IsName n → IsName a → LineReads (call (codes "Persist") (n ∷ a ∷ [])) (statement n (Persist a))
persist_reads n a h is = record {
  reads = ap line_of (open_tokens (codes "Persist") (n ∷ a ∷ []) refl ∙ ap (λ ts. token k.Name (codes "Persist") ∷ token k.Open (40 ∷ []) ∷ ts) (pair_tokens n a h is)) ∙ persist_line n a;
  inside = plain_call (codes "Persist") (n ∷ a ∷ []) refl (all_both is_plain n (44 ∷ 32 ∷ (a ++ [])) (plain_name n h) (all_both is_plain a [] (plain_name a is) refl));
}

-- ---- statements

abbrev Reads : Bytes → Op → Type 0
Reads n op = LineReads (statement_text (statement n op)) (statement n op)

operator_reads : (n : Bytes) (a : Operator) (ws : List Bytes) (op : Op) → IsName n → Listed (arguments a) ws (Some op) → LineReads ((n ++ codes " = ") ++ call (operator_word a) ws) (statement n op)
operator_reads n a ws op h l = assigned_reads n (operator_word a) a ws op h (word_name a) (word_named a) l

single_reads : (n : Bytes) (a : SingleOperator) (ws : List Bytes) (op : Op) → IsName n → Listed (spec.single a) ws op → LineReads ((n ++ codes " = ") ++ call (single_word a) ws) (statement n op)
unfolding arguments
single_reads n a ws op h l = operator_reads n (o.Single a) ws op h (and_made (spec.single a) Some ws op l)

rank_reads : (n : Bytes) (kind : RankOperator) (args : RankArgs) → IsName n → RankHasNames args → RankInRange args → LineReads ((n ++ codes " = ") ++ call (rank_word kind) (rank_arguments args)) (statement n (rank_of kind args))
unfolding arguments
rank_reads n kind args h names ranges = operator_reads n (o.Rank kind) _ _ h (and_made spec.rank (λ x. Some (rank_of kind x)) _ _ (rank_listed args names ranges))

fold_reads : (n : Bytes) (kind : FoldOperator) (args : FoldArgs) → IsName n → IsName args.a → FoldInRange args → LineReads ((n ++ codes " = ") ++ call (fold_word kind) (fold_arguments args)) (statement n (fold_of kind args))
unfolding arguments
fold_reads n kind args h names ranges = operator_reads n (o.Fold kind) _ _ h (and_made spec.fold (λ x. Some (fold_of kind x)) _ _ (fold_listed args names ranges))

pair_reads : (n : Bytes) (kind : PairKind) (args : PairArgs) → IsName n → PairHasNames args → PairInRange args → LineReads ((n ++ codes " = ") ++ call (pair_word kind) (pair_arguments args)) (statement n (pair_of kind args))
unfolding arguments
pair_reads n kind args h names ranges = operator_reads n (o.Pair kind) _ _ h (and_made spec.pair (λ x. Some (pair_of kind x)) _ _ (pair_listed args names ranges))

pub statement_reads : (n : Bytes) (op : Op) → IsName n → HasNames (family op) → InRange (family op) → Reads n op
unfolding arguments spec.single
statement_reads n (Persist a) h names ranges = persist_reads n a h names
statement_reads n (Range size out v) h names ranges = operator_reads n o.Range _ _ h (range_listed size out v names ranges.0 ranges.1 ranges.2)
statement_reads n (Load t) h names ranges = single_reads n s.Load _ _ h (load_listed t names)
statement_reads n (Cross a p b q) h names ranges = single_reads n s.Cross _ _ h (cross_listed a p b q names ranges)
statement_reads n (Zip a b) h names ranges = single_reads n s.Zip _ _ h (zip_listed a b names)
statement_reads n (Project a p q) h names ranges = single_reads n s.Project _ _ h (project_listed a p q names ranges)
statement_reads n (Upsert a p b q) h names ranges = single_reads n s.Upsert _ _ h (upsert_listed a p b q names ranges)
statement_reads n (Gather a b at) h names ranges = single_reads n s.Gather _ _ h (gather_listed a b at names ranges)
statement_reads n (Scatter a size b at) h names ranges = single_reads n s.Scatter _ _ h (scatter_listed a size b at names ranges)
statement_reads n (Materialize a) h names ranges = single_reads n s.Materialize _ _ h (materialize_listed a names)
statement_reads n (Break a) h names ranges = single_reads n s.Break _ _ h (break_listed a names)
statement_reads n (Order a mark out keys) h names ranges = single_reads n s.Order _ _ h (order_listed a mark out keys names ranges)
statement_reads n (BitShift x by out) h names ranges = single_reads n s.BitShift _ _ h (shift_listed x by out names ranges)
statement_reads n (Bucket args) h names ranges = rank_reads n r.Bucket args h names ranges
statement_reads n (Partition args) h names ranges = rank_reads n r.Partition args h names ranges
statement_reads n (FoldSum args) h names ranges = fold_reads n f.Sum args h names ranges
statement_reads n (FoldMin args) h names ranges = fold_reads n f.Min args h names ranges
statement_reads n (FoldMax args) h names ranges = fold_reads n f.Max args h names ranges
statement_reads n (FoldSelect args) h names ranges = fold_reads n f.Select args h names ranges
statement_reads n (FoldScan args) h names ranges = fold_reads n f.Scan args h names ranges
statement_reads n (Add args) h names ranges = pair_reads n q.Add args h names ranges
statement_reads n (Subtract args) h names ranges = pair_reads n q.Subtract args h names ranges
statement_reads n (Multiply args) h names ranges = pair_reads n q.Multiply args h names ranges
statement_reads n (Divide args) h names ranges = pair_reads n q.Divide args h names ranges
statement_reads n (Modulo args) h names ranges = pair_reads n q.Modulo args h names ranges
statement_reads n (Greater args) h names ranges = pair_reads n q.Greater args h names ranges
statement_reads n (Equals args) h names ranges = pair_reads n q.Equals args h names ranges
statement_reads n (LogicalAnd args) h names ranges = pair_reads n q.LogicalAnd args h names ranges
statement_reads n (LogicalOr args) h names ranges = pair_reads n q.LogicalOr args h names ranges
statement_reads n (Fill args) h names ranges = pair_reads n q.Fill args h names ranges

-- ---- programs

plain_no_feed : (b : ℕ) → is_plain b ≡ true → not (is_feed b) ≡ true
plain_no_feed b h = (and_parts (nat_lt b 128) (not (b == 10)) h).1

plain_small : (b : ℕ) → is_plain b ≡ true → b < 128
plain_small b h = ltb-true b 128 (and_parts (nat_lt b 128) (not (b == 10)) h).0

plain_ascii : (w : Bytes) → list_all is_plain w ≡ true → IsAscii w
plain_ascii w h = all_ascii is_plain plain_small w h

-- a line that is read has a token
with_read : (n : ℕ) (ts : List Token) (s : Statement) (others : Result ReadProgram TextRefusal) → line_of ts ≡ Ok s → with_line n ts others ≡ with_statement n s others
unfolding line_of spec.at_end spec.statement_of expect
with_read n [] s others h = absurd (cc)
with_read n (t ∷ ts) s others h = ap (λ r. on_line n r others) h

line_by_lines : (n : ℕ) (program : List Statement) → CanBeSpelled program → HasRanges program → read_lines n (lines (text_of program)) ≡ Ok (read program (range_with_len n (length program)))
line_by_lines n [] names ranges = refl
line_by_lines n (s ∷ program) names ranges =
    let l = statement_reads s.name s.op names.0.0 names.0.1 ranges.0 in
    let free = none_passes is_feed (statement_text s) (all_weaker is_plain (λ b. not (is_feed b)) plain_no_feed (statement_text s) l.inside) in
    ap (λ (z : Bytes). read_lines n (lines z)) (append_assoc (statement_text s) (codes "\n") (text_of program))
    ∙ ap (read_lines n) (slice_split_at is_feed (statement_text s) 10 (text_of program) free refl)
    ∙ with_read n (tokens (statement_text s)) s (read_lines (n + 1) (lines (text_of program))) l.reads
    ∙ ap (with_statement n s) (line_by_lines (n + 1) program names.1 ranges.1)

text_ascii : (program : List Statement) → CanBeSpelled program → HasRanges program → IsAscii (text_of program)
text_ascii [] names ranges = IsAscii-nil
text_ascii (s ∷ program) names ranges =
    let l = statement_reads s.name s.op names.0.0 names.0.1 ranges.0 in
    IsAscii-append (line s) (text_of program) (IsAscii-append (statement_text s) (codes "\n") (plain_ascii (statement_text s) l.inside) (IsAscii-cons 10 [] (lit< tt) IsAscii-nil)) (text_ascii program names.1 ranges.1)

pub text_reads : (program : List Statement) → CanBeSpelled program → HasRanges program → read_text (text_of program) ≡ Ok (line_by_line program)
unfolding read_text
text_reads program names ranges =
    rw (is_utf8-from_IsUtf8 (text_of program) (IsUtf8-from_ascii (text_of program) (text_ascii program names ranges))) (line_by_lines 1 program names ranges)

pub reads_law : (bytes : Bytes) (program : List Statement) → IsTextOf bytes program → read_text bytes ≡ Ok (line_by_line program)
reads_law bytes program is = ap read_text (sym is.text) ∙ text_reads program is.names is.ranges

ok_one : (a b : ReadProgram) → ◌≡◌ {A = Result ReadProgram TextRefusal} (Ok a) (Ok b) → a ≡ b
ok_one a b h = cc

pub one_law : (bytes : Bytes) (program : List Statement) (found : ReadProgram) → IsTextOf bytes program → read_text bytes ≡ Ok found → text_of found.program ≡ bytes
one_law bytes program found is h =
    let same = ok_one found (line_by_line program) (sym h ∙ reads_law bytes program is) in
    ap (λ r. text_of r.program) same ∙ is.text

pub text_laws : TextLaws
text_laws = record { reads = reads_law; one = one_law }

-- ---- what the call says
pub printed : (text : Bytes) (program rest : List Statement) → CanBeSpelled program → length rest < 1 → text ++ text_of rest ≡ text_of program → (HasRanges rest → HasRanges program) → read_text text ≡ Ok (line_by_line program)
printed text program [] names h whole ranges = ap read_text (sym (append-nil text) ∙ whole) ∙ text_reads program names (ranges tt)
printed text program (s ∷ rest) names h whole ranges = absurd (omega arith)
