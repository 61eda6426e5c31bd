-- Each parser of expressions is good for its rule of the grammar.
use Rattle.std.proofs.Common.{◌≡◌, ℕ, zero, suc, Bool, true, false, ◌||◌, List, [], ◌∷◌, length, Err, refl, ◌∙◌, inl, inr, ⊎_elim}
use Rattle.std.specs.Prelude.{Option}
use Rattle.std.specs.Prelude as Opt
use Rattle.phrases.specs.declared.refusal.ReadError.TheVariants.{Refused}
use Rattle.phrases.specs.Phrases.{Phrase, Both, nothing, none, token, ◌<|>◌, ◌>>◌, Repeated}
use Rattle.phrases.specs.Parsers.{pure, refuse, either, ◌>>=◌}
use Rattle.phrases.proofs.Good.{Some, free, good_pure, good_bind, good_either, good_refuse, good_same, weaken, next-weaker}
use Rattle.phrases.proofs.Repeats.{Turns}
use Rattle.phrases.proofs.Shapes.{some_both, some_nothing, some_repeated, or_left, or_right, good_map, good_list}
use Rattle.phrases.proofs.First.{Starts, starts_both, starts_either, starts_none, Avoids, avoids_starts, avoids_token, avoids_either, avoids_both, Quiet, quiet_starts, quiet_nothing, quiet_either, quiet_token}
use Rattle.sql_read.specs.declared.kind.Kind.{Kind}
use Rattle.sql_read.specs.declared.kind.Kind.TheVariants as k
use Rattle.sql_read.specs.declared.token_list.Token.{Token}
use Rattle.sql_read.specs.Kinds.{same_kind}
use Rattle.sql_read.specs.Lexis.{Bytes}
use Rattle.sql_read.specs.Schema.{is, word}
use Rattle.sql_read.proofs.GoodSchema.{of_kind}
use Rattle.query_read.specs.declared.fault.Fault.TheVariants.{Unexpected, TooDeep}
use Rattle.query_trees.specs.declared.expr.BinaryOp.TheVariants as op
use Rattle.query_trees.specs.declared.expr.Polarity.{Polarity}
use Rattle.query_trees.specs.declared.expr.Polarity.TheVariants.{Plain, Negated}
use Rattle.query_trees.specs.declared.expr.Expr.{Expr}
use Rattle.query_trees.specs.declared.expr.Form.TheVariants as f
use Rattle.query_read.specs.declared.enclosing.Enclosure.{Enclosure}
use Rattle.query_read.specs.declared.enclosing.Choices.{Choices}
use Rattle.query_read.specs.Asked.{Asked}
use Rattle.query_read.specs.Literals.{content}
use Rattle.query_read.specs.Classes.{multiplies, ranges}
use Rattle.query_trees.specs.Nodes.{node}
use Rattle.query_read.specs.Nodes.{signs, steps, compares, numerals, aggregates, of, sign_of, sum_op, comparison, aggregate_of, numbered, binary, divided, counted_node, choice, chosen, enclosure}
use Rattle.query_read.specs.Expressions as g
use Rattle.query_read.specs.Expressions.{Depth}
use Rattle.query_read.specs.ExpressionParsers as r
use Rattle.query_read.specs.ExpressionParsers.{Parser, Under, expect, expect_of, opening}
use Rattle.query_read.proofs.TokenKinds.{gap, FitsQ, signs_are, multiplies_are, ranges_are, compares_are, numerals_are, aggregates_are, apart, first_apart, others_apart, some_of, fits_of, some_word, word_map, some_map, after, after_of, starts_word, starts_in, starts_of, quiet_word, avoids_word, argument, some_argument, shut_opening}
use Rattle.query_read.proofs.FitsAtoms.{column_stops, fits_series, series_stops, some_series, fits_column, starts_column, fits_date, starts_date, fits_over, fits_nullity, turn_operation}

-- ---- what goes on with a rule

abbrev pub atom_stops : Kind → Bool
atom_stops x = steps x || column_stops x

abbrev pub term_stops : Kind → Bool
term_stops x = multiplies x || atom_stops x

abbrev pub sum_stops : Kind → Bool
sum_stops x = signs x || term_stops x

-- what follows the first sum of a predicate
abbrev pub tests : Kind → Bool
tests x = compares x || (same_kind x k.Not || (ranges x || same_kind x k.Is))

abbrev pub pred_stops : Kind → Bool
pred_stops x = tests x || sum_stops x

abbrev pub conj_stops : Kind → Bool
conj_stops x = same_kind x k.And || pred_stops x

abbrev pub expr_stops : Kind → Bool
expr_stops x = same_kind x k.Or || conj_stops x

-- ---- the rules, over what may open a level

-- what is read in parentheses
pub record Opens {A : Type 0} (L : Phrase Token A) (q : Parser A) : Type 0 where
  pub good : FitsQ L free q
  pub starts : Starts (is k.OpenParen) L
  pub shut : (t : Token) (s : List Token) → gap t ≡ true → q (t ∷ s) ≡ Err (Refused Unexpected (length (t ∷ s)))

pub record Level (d : Depth) (u : Under) : Type 0 where
  pub parens : Opens d.parens u.parens
  pub counted : Opens d.counted u.counted
  pub list : Opens d.list u.list
  pub choices : Opens d.choices u.choices
  pub nots : FitsQ d.nots (of pred_stops) u.nots
  pub nots_start : Starts (is k.Not) d.nots
  pub signed : FitsQ d.signed (of atom_stops) u.signed
  pub signed_start : Starts (of signs) d.signed

stronger : {A : Type 0} (L : Phrase Token A) (q : Parser A) (stop : Token → Bool) → FitsQ L free q → FitsQ L stop q
stronger L q stop good = weaken L q free stop good (λ t h. refl)

fits_number : FitsQ g.number (of atom_stops) r.number
unfolding r.number
fits_number = good_map (token (of numerals)) (expect_of numerals) (of atom_stops) (fits_of numerals (of atom_stops)) numbered

some_number : Some g.number
some_number = some_both (token (of numerals)) (λ t. nothing (numbered t)) (some_of numerals k.Digits refl) (λ t. some_nothing (numbered t))

fits_literal : (text : Bytes) → FitsQ (g.literal text) (of atom_stops) (r.literal text)
unfolding r.literal
fits_literal text = word_map k.Quoted (λ t. node t.at (f.Text (content text t))) (of atom_stops)

fits_reference : (text : Bytes) → FitsQ (g.reference text) (of atom_stops) (r.reference text)
unfolding r.reference
fits_reference text = weaken (g.reference text) (r.column text >>= (λ c. pure (node c.at (f.Column c)))) (of column_stops) (of atom_stops)
    (good_map (g.column text) (r.column text) (of column_stops) (fits_column text) (λ c. node c.at (f.Column c)))
    (λ t h. or_right (steps t.kind) (column_stops t.kind) h)

starts_reference : (text : Bytes) → Starts (is k.Name) (g.reference text)
starts_reference text = starts_both (is k.Name) (g.column text) (λ c. nothing (node c.at (f.Column c))) (starts_column text)

module _ (m : Asked) (text : Bytes) (d : Depth) (u : Under) (v : Level d u) where
  -- COUNT
  abbrev over_counted : Token → Phrase Token Expr
  over_counted t = Both (d.counted <|> g.gap Opt.None) (λ x. nothing (counted_node t x))

  fits_count : FitsQ (g.count d) (of atom_stops) (r.count u)
  unfolding r.count
  fits_count = stronger (g.count d) (expect k.Count >>= (λ t. u.counted >>= (λ x. pure (counted_node t x)))) (of atom_stops)
      (after k.Count over_counted _ free
      (λ t. good_map (d.counted <|> g.gap Opt.None) u.counted free (argument d.counted free u.counted Opt.None v.counted.good v.counted.shut) (counted_node t))
      (λ t. some_both (d.counted <|> g.gap Opt.None) _ (some_argument d.counted Opt.None) (λ x. some_nothing (counted_node t x))))

  -- COALESCE
  abbrev over_choices : Token → Phrase Token Expr
  over_choices t = Both (d.choices <|> g.gap g.no_choices) (λ x. nothing (chosen t x))

  fits_coalesce : FitsQ (g.coalesce d) (of atom_stops) (r.coalesce u)
  unfolding r.coalesce
  fits_coalesce = stronger (g.coalesce d) (expect k.Coalesce >>= (λ t. u.choices >>= (λ x. pure (chosen t x)))) (of atom_stops)
      (after k.Coalesce over_choices _ free
      (λ t. good_map (d.choices <|> g.gap g.no_choices) u.choices free (argument d.choices free u.choices g.no_choices v.choices.good v.choices.shut) (chosen t))
      (λ t. some_both (d.choices <|> g.gap g.no_choices) _ (some_argument d.choices g.no_choices) (λ x. some_nothing (chosen t x))))

  -- SUM, MIN, MAX, AVG
  abbrev over_parens : Token → Phrase Token Expr
  over_parens t = Both (d.parens <|> g.gap g.nowhere) (λ x. nothing (node t.at (f.Aggregate (aggregate_of t.kind) x.value)))

  fits_aggregate : FitsQ (g.aggregate d) (of atom_stops) (r.aggregate u)
  unfolding r.aggregate
  fits_aggregate = stronger (g.aggregate d) (expect_of aggregates >>= (λ t. u.parens >>= (λ x. pure (node t.at (f.Aggregate (aggregate_of t.kind) x.value))))) (of atom_stops)
      (after_of aggregates over_parens _ free
      (λ t. good_map (d.parens <|> g.gap g.nowhere) u.parens free (argument d.parens free u.parens g.nowhere v.parens.good v.parens.shut) (λ x. node t.at (f.Aggregate (aggregate_of t.kind) x.value)))
      (λ t. some_both (d.parens <|> g.gap g.nowhere) _ (some_argument d.parens g.nowhere) (λ x. some_nothing (node t.at (f.Aggregate (aggregate_of t.kind) x.value)))))

  -- "(" expr ")"
  fits_enclosed : FitsQ (g.enclosed d) (of atom_stops) (r.enclosed u)
  unfolding r.enclosed
  fits_enclosed = stronger (g.enclosed d) (u.parens >>= (λ x. pure (node x.at (f.Enclosed x.value)))) (of atom_stops)
      (good_map d.parens u.parens free v.parens.good (λ x. node x.at (f.Enclosed x.value)))

  starts_enclosed : Starts (is k.OpenParen) (g.enclosed d)
  starts_enclosed = starts_both (is k.OpenParen) d.parens (λ x. nothing (node x.at (f.Enclosed x.value))) v.parens.starts

  -- atoms, from the last alternative to the first, and what each begins with
  abbrev kinds_8 : List Kind
  kinds_8 = k.OpenParen ∷ []

  abbrev kinds_7 : List Kind
  kinds_7 = k.Coalesce ∷ kinds_8

  abbrev kinds_6 : List Kind
  kinds_6 = k.Sum ∷ k.Min ∷ k.Max ∷ k.Avg ∷ kinds_7

  abbrev kinds_5 : List Kind
  kinds_5 = k.Count ∷ kinds_6

  abbrev kinds_4 : List Kind
  kinds_4 = k.Name ∷ kinds_5

  abbrev kinds_3 : List Kind
  kinds_3 = k.Date ∷ kinds_4

  abbrev kinds_2 : List Kind
  kinds_2 = k.Quoted ∷ kinds_3

  abbrev kinds_1 : List Kind
  kinds_1 = k.Digits ∷ k.Fraction ∷ kinds_2

  abbrev atoms_7 : Phrase Token Expr
  atoms_7 = g.coalesce d <|> g.enclosed d

  abbrev atoms_6 : Phrase Token Expr
  atoms_6 = g.aggregate d <|> atoms_7

  abbrev atoms_5 : Phrase Token Expr
  atoms_5 = g.count d <|> atoms_6

  abbrev atoms_4 : Phrase Token Expr
  atoms_4 = g.reference text <|> atoms_5

  abbrev atoms_3 : Phrase Token Expr
  atoms_3 = g.date m text <|> atoms_4

  abbrev atoms_2 : Phrase Token Expr
  atoms_2 = g.literal text <|> atoms_3

  abbrev parser_7 : Parser Expr
  parser_7 = either (is k.Coalesce) (r.coalesce u) (r.enclosed u)

  abbrev parser_6 : Parser Expr
  parser_6 = either (of aggregates) (r.aggregate u) parser_7

  abbrev parser_5 : Parser Expr
  parser_5 = either (is k.Count) (r.count u) parser_6

  abbrev parser_4 : Parser Expr
  parser_4 = either (is k.Name) (r.reference text) parser_5

  abbrev parser_3 : Parser Expr
  parser_3 = either (is k.Date) (r.date m text) parser_4

  abbrev parser_2 : Parser Expr
  parser_2 = either (is k.Quoted) (r.literal text) parser_3

  avoids_8 : (h : Kind → Bool) → apart kinds_8 h ≡ true → Avoids (of h) (g.enclosed d)
  avoids_8 h e = avoids_starts (is k.OpenParen) (of h) (g.enclosed d) (λ t y. of_kind h k.OpenParen t y ∙ first_apart k.OpenParen [] h e) starts_enclosed

  avoids_7 : (h : Kind → Bool) → apart kinds_7 h ≡ true → Avoids (of h) atoms_7
  avoids_7 h e = avoids_either (of h) (g.coalesce d) (g.enclosed d) (avoids_word h k.Coalesce over_choices (first_apart k.Coalesce kinds_8 h e)) (avoids_8 h (others_apart k.Coalesce kinds_8 h e))

  avoids_6 : (h : Kind → Bool) → apart kinds_6 h ≡ true → Avoids (of h) atoms_6
  avoids_6 h e =
      let after_sum = k.Min ∷ k.Max ∷ k.Avg ∷ kinds_7 in
      let after_min = k.Max ∷ k.Avg ∷ kinds_7 in
      let after_max = k.Avg ∷ kinds_7 in
      let a = others_apart k.Sum after_sum h e in
      let b = others_apart k.Min after_min h a in
      let c = others_apart k.Max after_max h b in
      avoids_either (of h) (g.aggregate d) atoms_7
      (avoids_token (of aggregates) (of h) over_parens (λ t y. aggregates_are h false (first_apart k.Sum after_sum h e) (first_apart k.Min after_min h a) (first_apart k.Max after_max h b) (first_apart k.Avg kinds_7 h c) t.kind y))
      (avoids_7 h (others_apart k.Avg kinds_7 h c))

  avoids_5 : (h : Kind → Bool) → apart kinds_5 h ≡ true → Avoids (of h) atoms_5
  avoids_5 h e = avoids_either (of h) (g.count d) atoms_6 (avoids_word h k.Count over_counted (first_apart k.Count kinds_6 h e)) (avoids_6 h (others_apart k.Count kinds_6 h e))

  avoids_4 : (h : Kind → Bool) → apart kinds_4 h ≡ true → Avoids (of h) atoms_4
  avoids_4 h e = avoids_either (of h) (g.reference text) atoms_5
      (avoids_starts (is k.Name) (of h) (g.reference text) (λ t y. of_kind h k.Name t y ∙ first_apart k.Name kinds_5 h e) (starts_reference text))
      (avoids_5 h (others_apart k.Name kinds_5 h e))

  avoids_3 : (h : Kind → Bool) → apart kinds_3 h ≡ true → Avoids (of h) atoms_3
  avoids_3 h e = avoids_either (of h) (g.date m text) atoms_4
      (avoids_starts (is k.Date) (of h) (g.date m text) (λ t y. of_kind h k.Date t y ∙ first_apart k.Date kinds_4 h e) (starts_date m text))
      (avoids_4 h (others_apart k.Date kinds_4 h e))

  avoids_2 : (h : Kind → Bool) → apart kinds_2 h ≡ true → Avoids (of h) atoms_2
  avoids_2 h e = avoids_either (of h) (g.literal text) atoms_3 (avoids_word h k.Quoted (λ t. nothing (node t.at (f.Text (content text t)))) (first_apart k.Quoted kinds_3 h e)) (avoids_3 h (others_apart k.Quoted kinds_3 h e))

  avoids_atom : (h : Kind → Bool) → apart kinds_1 h ≡ true → Avoids (of h) (g.atom m text d)
  avoids_atom h e =
      let a = others_apart k.Digits (k.Fraction ∷ kinds_2) h e in
      avoids_either (of h) g.number atoms_2
      (avoids_token (of numerals) (of h) (λ t. nothing (numbered t)) (λ t y. numerals_are h false (first_apart k.Digits (k.Fraction ∷ kinds_2) h e) (first_apart k.Fraction kinds_2 h a) t.kind y))
      (avoids_2 h (others_apart k.Fraction kinds_2 h a))

  fits_7 : FitsQ atoms_7 (of atom_stops) parser_7
  unfolding same_kind
  fits_7 = good_either (g.coalesce d) (g.enclosed d) (r.coalesce u) (r.enclosed u) (is k.Coalesce) (of atom_stops) fits_coalesce fits_enclosed
      (starts_word k.Coalesce over_choices)
      (λ xs rest a l e. avoids_8 (λ x. same_kind x k.Coalesce) refl xs rest a l)

  fits_6 : FitsQ atoms_6 (of atom_stops) parser_6
  fits_6 = good_either (g.aggregate d) atoms_7 (r.aggregate u) parser_7 (of aggregates) (of atom_stops) fits_aggregate fits_7
      (starts_of aggregates over_parens)
      (λ xs rest a l e. avoids_7 aggregates refl xs rest a l)

  fits_5 : FitsQ atoms_5 (of atom_stops) parser_5
  unfolding same_kind
  fits_5 = good_either (g.count d) atoms_6 (r.count u) parser_6 (is k.Count) (of atom_stops) fits_count fits_6
      (starts_word k.Count over_counted)
      (λ xs rest a l e. avoids_6 (λ x. same_kind x k.Count) refl xs rest a l)

  fits_4 : FitsQ atoms_4 (of atom_stops) parser_4
  unfolding same_kind
  fits_4 = good_either (g.reference text) atoms_5 (r.reference text) parser_5 (is k.Name) (of atom_stops) (fits_reference text) fits_5
      (starts_reference text)
      (λ xs rest a l e. avoids_5 (λ x. same_kind x k.Name) refl xs rest a l)

  fits_3 : FitsQ atoms_3 (of atom_stops) parser_3
  unfolding same_kind
  fits_3 = good_either (g.date m text) atoms_4 (r.date m text) parser_4 (is k.Date) (of atom_stops)
      (weaken (g.date m text) (r.date m text) (of steps) (of atom_stops) (fits_date m text) (λ t h. or_left (steps t.kind) (column_stops t.kind) h)) fits_4
      (starts_date m text)
      (λ xs rest a l e. avoids_4 (λ x. same_kind x k.Date) refl xs rest a l)

  fits_2 : FitsQ atoms_2 (of atom_stops) parser_2
  unfolding same_kind
  fits_2 = good_either (g.literal text) atoms_3 (r.literal text) parser_3 (is k.Quoted) (of atom_stops) (fits_literal text) fits_3
      (starts_word k.Quoted (λ t. nothing (node t.at (f.Text (content text t)))))
      (λ xs rest a l e. avoids_3 (λ x. same_kind x k.Quoted) refl xs rest a l)

  fits_atom : FitsQ (g.atom m text d) (of atom_stops) (r.atom m text u)
  unfolding r.atom
  fits_atom = good_either g.number atoms_2 r.number parser_2 (of numerals) (of atom_stops) fits_number fits_2
      (starts_of numerals (λ t. nothing (numbered t)))
      (λ xs rest a l e. avoids_2 numerals refl xs rest a l)

  some_atom : Some (g.atom m text d)
  some_atom = let s = some_number in record { text = s.text; value = s.value; reads = inl s.reads }

  -- ---- factors, terms and sums

  fits_factor : FitsQ (g.factor m text d) (of atom_stops) (r.factor m text u)
  unfolding r.factor same_kind
  fits_factor = good_either d.signed (g.atom m text d) u.signed (r.atom m text u) (of signs) (of atom_stops) v.signed fits_atom v.signed_start
      (λ xs rest a l e. avoids_atom signs refl xs rest a l)

  some_factor : Some (g.factor m text d)
  some_factor = let s = some_atom in record { text = s.text; value = s.value; reads = inr s.reads }

  avoids_factor : (h : Kind → Bool) → h k.Plus ≡ false → h k.Minus ≡ false → Avoids (of h) (g.atom m text d) → Avoids (of h) (g.factor m text d)
  avoids_factor h a b atom = avoids_either (of h) d.signed (g.atom m text d) (avoids_starts (of signs) (of h) d.signed (λ t y. signs_are h false a b t.kind y) v.signed_start) atom

  fits_times : (a : Expr) → FitsQ (g.times m text d a) (of atom_stops) (r.times m text u a)
  unfolding r.times
  fits_times a = after k.Star (λ t. Both (g.factor m text d) (λ b. nothing (binary op.Multiply t.at a b))) _ (of atom_stops)
      (λ t. good_map (g.factor m text d) (r.factor m text u) (of atom_stops) fits_factor (λ b. binary op.Multiply t.at a b))
      (λ t. some_both (g.factor m text d) _ some_factor (λ b. some_nothing (binary op.Multiply t.at a b)))

  abbrev multiplied : Expr → Phrase Token Expr
  multiplied a = g.times m text d a <|> g.over a

  fits_multiplied : (a : Expr) → FitsQ (multiplied a) (of atom_stops) (r.multiplied m text u a)
  unfolding r.multiplied same_kind
  fits_multiplied a = good_either (g.times m text d a) (g.over a) (r.times m text u a) (r.over a) (is k.Star) (of atom_stops) (fits_times a) (fits_over (of atom_stops) a)
      (starts_word k.Star _)
      (λ xs rest b l e. avoids_word (λ x. same_kind x k.Star) k.Slash (λ t. Both g.divisor (λ w. nothing (divided t.at a w))) refl xs rest b l)

  turn_multiplied : Turns gap multiplied (of atom_stops) (of multiplies) (r.multiplied m text u)
  unfolding same_kind
  turn_multiplied = record {
    good = fits_multiplied;
    begins = λ a xs rest b l. starts_either (of multiplies) (g.times m text d a) (g.over a) (starts_in multiplies k.Star _ refl) (starts_in multiplies k.Slash _ refl) xs rest b l;
    apart = λ t h. multiplies_are atom_stops false refl refl t.kind h;
  }

  fits_term : FitsQ (g.term m text d) (of term_stops) (r.term m text u)
  unfolding r.term
  fits_term = good_list (g.factor m text d) (r.factor m text u) (of atom_stops) multiplied (of multiplies) (r.multiplied m text u) (λ a. a) fits_factor turn_multiplied

  some_term : Some (g.term m text d)
  some_term = some_both (g.factor m text d) (Repeated multiplied) some_factor (some_repeated multiplied)

  fits_added : (a : Expr) → FitsQ (g.added m text d a) (of term_stops) (r.added m text u a)
  unfolding r.added
  fits_added a = after_of signs (λ s. Both (g.term m text d) (λ b. nothing (binary (sum_op s.kind) s.at a b))) _ (of term_stops)
      (λ s. good_map (g.term m text d) (r.term m text u) (of term_stops) fits_term (λ b. binary (sum_op s.kind) s.at a b))
      (λ s. some_both (g.term m text d) _ some_term (λ b. some_nothing (binary (sum_op s.kind) s.at a b)))

  turn_added : Turns gap (g.added m text d) (of term_stops) (of signs) (r.added m text u)
  unfolding same_kind
  turn_added = record {
    good = fits_added;
    begins = λ a xs rest b l. starts_of signs (λ s. Both (g.term m text d) (λ b. nothing (binary (sum_op s.kind) s.at a b))) xs rest b l;
    apart = λ t h. signs_are term_stops false refl refl t.kind h;
  }

  fits_sum : FitsQ (g.sum m text d) (of sum_stops) (r.sum m text u)
  unfolding r.sum
  fits_sum = good_list (g.term m text d) (r.term m text u) (of term_stops) (g.added m text d) (of signs) (r.added m text u) (λ a. a) fits_term turn_added

  some_sum : Some (g.sum m text d)
  some_sum = some_both (g.term m text d) (Repeated (g.added m text d)) some_term (some_repeated (g.added m text d))

  avoids_sum : (h : Kind → Bool) → Avoids (of h) (g.factor m text d) → Avoids (of h) (g.sum m text d)
  avoids_sum h e = avoids_both (of h) (g.term m text d) (Repeated (g.added m text d)) (avoids_both (of h) (g.factor m text d) (Repeated multiplied) e)

  -- ---- predicates

  fits_compared : (a : Expr) → FitsQ (g.compared m text d a) (of sum_stops) (r.compared m text u a)
  unfolding r.compared
  fits_compared a = after_of compares (λ t. Both (g.sum m text d) (λ b. nothing (binary (comparison t.kind) t.at a b))) _ (of sum_stops)
      (λ t. good_map (g.sum m text d) (r.sum m text u) (of sum_stops) fits_sum (λ b. binary (comparison t.kind) t.at a b))
      (λ t. some_both (g.sum m text d) _ some_sum (λ b. some_nothing (binary (comparison t.kind) t.at a b)))

  abbrev high : Polarity → Expr → Token → Expr → Phrase Token Expr
  high o a t low = word k.And >> Both (g.sum m text d) (λ x. nothing (node a.at (f.Between o t.at a low x)))

  some_high : (o : Polarity) (a : Expr) (t : Token) (low : Expr) → Some (high o a t low)
  some_high o a t low = some_both (word k.And) _ (some_word k.And) (λ _. some_both (g.sum m text d) _ some_sum (λ x. some_nothing (node a.at (f.Between o t.at a low x))))

  fits_high : (o : Polarity) (a : Expr) (t : Token) (low : Expr) → FitsQ (high o a t low) (of sum_stops) (expect k.And >>= (λ _. r.sum m text u >>= (λ x. pure (node a.at (f.Between o t.at a low x)))))
  fits_high o a t low = after k.And (λ _. Both (g.sum m text d) (λ x. nothing (node a.at (f.Between o t.at a low x)))) _ (of sum_stops)
      (λ _. good_map (g.sum m text d) (r.sum m text u) (of sum_stops) fits_sum (λ x. node a.at (f.Between o t.at a low x)))
      (λ _. some_both (g.sum m text d) _ some_sum (λ x. some_nothing (node a.at (f.Between o t.at a low x))))

  fits_between : (o : Polarity) (a : Expr) → FitsQ (g.between m text d o a) (of sum_stops) (r.between m text u o a)
  unfolding r.between same_kind
  fits_between o a = after k.Between (λ t. Both (g.sum m text d) (high o a t)) _ (of sum_stops)
      (λ t. good_bind (g.sum m text d) (high o a t) (r.sum m text u) _ (of sum_stops) (of sum_stops) fits_sum (fits_high o a t)
      (λ low ys rest b l e. avoids_word sum_stops k.And (λ _. Both (g.sum m text d) (λ x. nothing (node a.at (f.Between o t.at a low x)))) refl ys rest b l)
      (some_high o a t))
      (λ t. some_both (g.sum m text d) (high o a t) some_sum (some_high o a t))

  abbrev among : Polarity → Expr → Token → Phrase Token Expr
  among o a t = Both (d.list <|> g.gap []) (λ xs. nothing (node a.at (f.In o t.at a xs)))

  fits_contained : (o : Polarity) (a : Expr) → FitsQ (g.contained m text d o a) (of sum_stops) (r.contained u o a)
  unfolding r.contained
  fits_contained o a = stronger (g.contained m text d o a) (expect k.In >>= (λ t. u.list >>= (λ xs. pure (node a.at (f.In o t.at a xs))))) (of sum_stops)
      (after k.In (among o a) _ free
      (λ t. good_map (d.list <|> g.gap []) u.list free (argument d.list free u.list [] v.list.good v.list.shut) (λ xs. node a.at (f.In o t.at a xs)))
      (λ t. some_both (d.list <|> g.gap []) _ (some_argument d.list []) (λ xs. some_nothing (node a.at (f.In o t.at a xs)))))

  fits_ranged : (o : Polarity) (a : Expr) → FitsQ (g.ranged m text d o a) (of sum_stops) (r.ranged m text u o a)
  unfolding r.ranged same_kind
  fits_ranged o a = good_either (g.between m text d o a) (g.contained m text d o a) (r.between m text u o a) (r.contained u o a) (is k.Between) (of sum_stops) (fits_between o a) (fits_contained o a)
      (starts_word k.Between _)
      (λ xs rest b l e. avoids_word (λ x. same_kind x k.Between) k.In (among o a) refl xs rest b l)

  starts_ranged : (o : Polarity) (a : Expr) → Starts (of ranges) (g.ranged m text d o a)
  starts_ranged o a = starts_either (of ranges) (g.between m text d o a) (g.contained m text d o a) (starts_in ranges k.Between _ refl) (starts_in ranges k.In (among o a) refl)

  some_ranged : (o : Polarity) (a : Expr) → Some (g.ranged m text d o a)
  some_ranged o a =
      let s = some_both (word k.In) (among o a) (some_word k.In) (λ t. some_both (d.list <|> g.gap []) _ (some_argument d.list []) (λ xs. some_nothing (node a.at (f.In o t.at a xs)))) in
      record { text = s.text; value = s.value; reads = inr s.reads }

  fits_negated : (a : Expr) → FitsQ (g.negated m text d a) (of sum_stops) (r.negated m text u a)
  unfolding r.negated
  fits_negated a = after k.Not (λ _. g.ranged m text d Negated a) _ (of sum_stops) (λ _. fits_ranged Negated a) (λ _. some_ranged Negated a)

  -- what may follow the first sum, from the last alternative to the first
  abbrev test_4 : Expr → Phrase Token Expr
  test_4 a = g.nullity a <|> nothing a

  abbrev test_3 : Expr → Phrase Token Expr
  test_3 a = g.ranged m text d Plain a <|> test_4 a

  abbrev test_2 : Expr → Phrase Token Expr
  test_2 a = g.negated m text d a <|> test_3 a

  wider : (L : Phrase Token Expr) (q : Parser Expr) → FitsQ L (of sum_stops) q → FitsQ L (of pred_stops) q
  wider L q good = weaken L q (of sum_stops) (of pred_stops) good (λ t h. or_right (tests t.kind) (sum_stops t.kind) h)

  -- a kind that follows a predicate begins no test
  no_test : (x : Kind) → pred_stops x ≡ false → tests x ≡ false
  no_test x h = or_left (tests x) (sum_stops x) h

  no_compare : (x : Kind) → pred_stops x ≡ false → compares x ≡ false
  no_compare x h = or_left (compares x) (same_kind x k.Not || (ranges x || same_kind x k.Is)) (no_test x h)

  past_compare : (x : Kind) → pred_stops x ≡ false → same_kind x k.Not || (ranges x || same_kind x k.Is) ≡ false
  past_compare x h = or_right (compares x) (same_kind x k.Not || (ranges x || same_kind x k.Is)) (no_test x h)

  no_not : (x : Kind) → pred_stops x ≡ false → same_kind x k.Not ≡ false
  no_not x h = or_left (same_kind x k.Not) (ranges x || same_kind x k.Is) (past_compare x h)

  past_not : (x : Kind) → pred_stops x ≡ false → ranges x || same_kind x k.Is ≡ false
  past_not x h = or_right (same_kind x k.Not) (ranges x || same_kind x k.Is) (past_compare x h)

  no_range : (x : Kind) → pred_stops x ≡ false → ranges x ≡ false
  no_range x h = or_left (ranges x) (same_kind x k.Is) (past_not x h)

  no_is : (x : Kind) → pred_stops x ≡ false → same_kind x k.Is ≡ false
  no_is x h = or_right (ranges x) (same_kind x k.Is) (past_not x h)

  quiet_4 : (h : Kind → Bool) → h k.Is ≡ false → (a : Expr) → Quiet (of h) (test_4 a)
  quiet_4 h s a = quiet_either (of h) (g.nullity a) (nothing a) (quiet_word h k.Is _ s) (quiet_nothing (of h) a)

  quiet_3 : (h : Kind → Bool) → h k.Between ≡ false → h k.In ≡ false → h k.Is ≡ false → (a : Expr) → Quiet (of h) (test_3 a)
  quiet_3 h i j s a = quiet_either (of h) (g.ranged m text d Plain a) (test_4 a)
      (quiet_starts (of ranges) (of h) (g.ranged m text d Plain a) (λ t y. ranges_are h false i j t.kind y) (starts_ranged Plain a))
      (quiet_4 h s a)

  quiet_2 : (h : Kind → Bool) → h k.Not ≡ false → h k.Between ≡ false → h k.In ≡ false → h k.Is ≡ false → (a : Expr) → Quiet (of h) (test_2 a)
  quiet_2 h n i j s a = quiet_either (of h) (g.negated m text d a) (test_3 a) (quiet_word h k.Not _ n) (quiet_3 h i j s a)

  quiet_test : (h : Kind → Bool) → h k.Equal ≡ false → h k.Differs ≡ false → h k.Less ≡ false → h k.LessEqual ≡ false → h k.Greater ≡ false → h k.GreaterEqual ≡ false → h k.Not ≡ false → h k.Between ≡ false → h k.In ≡ false → h k.Is ≡ false → (a : Expr) → Quiet (of h) (g.predicate_tail m text d a)
  quiet_test h b c e o q w n i j s a = quiet_either (of h) (g.compared m text d a) (test_2 a)
      (quiet_token (of compares) (of h) (λ t. Both (g.sum m text d) (λ x. nothing (binary (comparison t.kind) t.at a x))) (λ t y. compares_are h false b c e o q w t.kind y))
      (quiet_2 h n i j s a)

  abbrev test_parser_4 : Expr → Parser Expr
  test_parser_4 a = either (is k.Is) (r.nullity a) (pure a)

  abbrev test_parser_3 : Expr → Parser Expr
  test_parser_3 a = either (of ranges) (r.ranged m text u Plain a) (test_parser_4 a)

  abbrev test_parser_2 : Expr → Parser Expr
  test_parser_2 a = either (is k.Not) (r.negated m text u a) (test_parser_3 a)

  fits_test_4 : (a : Expr) → FitsQ (test_4 a) (of pred_stops) (test_parser_4 a)
  fits_test_4 a = good_either (g.nullity a) (nothing a) (r.nullity a) (pure a) (is k.Is) (of pred_stops)
      (fits_nullity (of pred_stops) a) (good_pure a (of pred_stops))
      (starts_word k.Is _)
      (λ xs rest b l e. quiet_nothing (is k.Is) a xs rest b l (next-weaker (is k.Is) (of pred_stops) (λ t h. no_is t.kind h) rest e))

  fits_test_3 : (a : Expr) → FitsQ (test_3 a) (of pred_stops) (test_parser_3 a)
  fits_test_3 a = good_either (g.ranged m text d Plain a) (test_4 a) (r.ranged m text u Plain a) (test_parser_4 a) (of ranges) (of pred_stops)
      (wider (g.ranged m text d Plain a) (r.ranged m text u Plain a) (fits_ranged Plain a)) (fits_test_4 a)
      (starts_ranged Plain a)
      (λ xs rest b l e. quiet_4 ranges refl a xs rest b l (next-weaker (of ranges) (of pred_stops) (λ t h. no_range t.kind h) rest e))

  fits_test_2 : (a : Expr) → FitsQ (test_2 a) (of pred_stops) (test_parser_2 a)
  unfolding same_kind
  fits_test_2 a = good_either (g.negated m text d a) (test_3 a) (r.negated m text u a) (test_parser_3 a) (is k.Not) (of pred_stops)
      (wider (g.negated m text d a) (r.negated m text u a) (fits_negated a)) (fits_test_3 a)
      (starts_word k.Not _)
      (λ xs rest b l e. quiet_3 (λ x. same_kind x k.Not) refl refl refl a xs rest b l (next-weaker (is k.Not) (of pred_stops) (λ t h. no_not t.kind h) rest e))

  fits_test : (a : Expr) → FitsQ (g.predicate_tail m text d a) (of pred_stops) (r.predicate_tail m text u a)
  unfolding r.predicate_tail
  fits_test a = good_either (g.compared m text d a) (test_2 a) (r.compared m text u a) (test_parser_2 a) (of compares) (of pred_stops)
      (wider (g.compared m text d a) (r.compared m text u a) (fits_compared a)) (fits_test_2 a)
      (starts_of compares (λ t. Both (g.sum m text d) (λ x. nothing (binary (comparison t.kind) t.at a x))))
      (λ xs rest b l e. quiet_2 compares refl refl refl refl a xs rest b l (next-weaker (of compares) (of pred_stops) (λ t h. no_compare t.kind h) rest e))

  some_test : (a : Expr) → Some (g.predicate_tail m text d a)
  some_test a = record { text = []; value = a; reads = inr (inr (inr (inr (refl, refl)))) }

  fits_pred : FitsQ (g.pred m text d) (of pred_stops) (r.pred m text u)
  unfolding r.pred same_kind
  fits_pred = good_bind (g.sum m text d) (g.predicate_tail m text d) (r.sum m text u) (r.predicate_tail m text u) (of sum_stops) (of pred_stops) fits_sum fits_test
      (λ a ys rest b l e. quiet_test sum_stops refl refl refl refl refl refl refl refl refl refl a ys rest b l (next-weaker (of sum_stops) (of pred_stops) (λ t h. or_right (tests t.kind) (sum_stops t.kind) h) rest e))
      some_test

  some_pred : Some (g.pred m text d)
  some_pred = some_both (g.sum m text d) (g.predicate_tail m text d) some_sum some_test

  -- ---- NOT, AND, OR

  fits_neg : FitsQ (g.neg m text d) (of pred_stops) (r.neg m text u)
  unfolding r.neg same_kind
  fits_neg = good_either d.nots (g.pred m text d) u.nots (r.pred m text u) (is k.Not) (of pred_stops) v.nots fits_pred v.nots_start
      (λ xs rest a l e. avoids_both (is k.Not) (g.sum m text d) (g.predicate_tail m text d)
      (avoids_sum (λ x. same_kind x k.Not) (avoids_factor (λ x. same_kind x k.Not) refl refl (avoids_atom (λ x. same_kind x k.Not) refl))) xs rest a l)

  some_neg : Some (g.neg m text d)
  some_neg = let s = some_pred in record { text = s.text; value = s.value; reads = inr s.reads }

  fits_conj : FitsQ (g.conj m text d) (of conj_stops) (r.conj m text u)
  unfolding r.conj same_kind
  fits_conj = good_list (g.neg m text d) (r.neg m text u) (of pred_stops) (g.operation k.And op.And (g.neg m text d)) (is k.And) (r.operation k.And op.And (r.neg m text u)) (λ a. a) fits_neg
      (turn_operation k.And op.And (g.neg m text d) (r.neg m text u) pred_stops refl fits_neg some_neg)

  some_conj : Some (g.conj m text d)
  some_conj = some_both (g.neg m text d) (Repeated (g.operation k.And op.And (g.neg m text d))) some_neg (some_repeated (g.operation k.And op.And (g.neg m text d)))

  pub fits_expr_at : FitsQ (g.expr m text d) (of expr_stops) (r.expr m text u)
  unfolding r.expr same_kind
  fits_expr_at = good_list (g.conj m text d) (r.conj m text u) (of conj_stops) (g.operation k.Or op.Or (g.conj m text d)) (is k.Or) (r.operation k.Or op.Or (r.conj m text u)) (λ a. a) fits_conj
      (turn_operation k.Or op.Or (g.conj m text d) (r.conj m text u) conj_stops refl fits_conj some_conj)

  pub some_expr_at : Some (g.expr m text d)
  some_expr_at = some_both (g.conj m text d) (Repeated (g.operation k.Or op.Or (g.conj m text d))) some_conj (some_repeated (g.operation k.Or op.Or (g.conj m text d)))

  pub avoids_expr_at : (h : Kind → Bool) → apart (k.Not ∷ k.Plus ∷ k.Minus ∷ kinds_1) h ≡ true → Avoids (of h) (g.expr m text d)
  avoids_expr_at h e =
      let a = others_apart k.Not (k.Plus ∷ k.Minus ∷ kinds_1) h e in
      let b = others_apart k.Plus (k.Minus ∷ kinds_1) h a in
      avoids_both (of h) (g.conj m text d) (Repeated (g.operation k.Or op.Or (g.conj m text d)))
      (avoids_both (of h) (g.neg m text d) (Repeated (g.operation k.And op.And (g.neg m text d)))
      (avoids_either (of h) d.nots (g.pred m text d)
      (avoids_starts (is k.Not) (of h) d.nots (λ t u. of_kind h k.Not t u ∙ first_apart k.Not (k.Plus ∷ k.Minus ∷ kinds_1) h e) v.nots_start)
      (avoids_both (of h) (g.sum m text d) (g.predicate_tail m text d)
      (avoids_sum h (avoids_factor h (first_apart k.Plus (k.Minus ∷ kinds_1) h a) (first_apart k.Minus kinds_1 h b) (avoids_atom h (others_apart k.Minus kinds_1 h b)))))))

  -- ---- one level deeper

  abbrev closes : Token → Expr → Phrase Token Enclosure
  closes t a = word k.CloseParen >> nothing (enclosure t a)

  abbrev closed_expr : Token → Phrase Token Enclosure
  closed_expr t = Both (g.expr m text d) (closes t)

  pub fits_closed : (t : Token) → FitsQ (closed_expr t) free (r.expr m text u >>= (λ a. expect k.CloseParen >>= (λ _. pure (enclosure t a))))
  unfolding same_kind
  fits_closed t = good_bind (g.expr m text d) (closes t) (r.expr m text u) _ (of expr_stops) free fits_expr_at
      (λ a. word_map k.CloseParen (λ _. enclosure t a) free)
      (λ a ys rest b l e. avoids_word expr_stops k.CloseParen (λ _. nothing (enclosure t a)) refl ys rest b l)
      (λ a. some_map k.CloseParen (λ _. enclosure t a))

  fits_parens : FitsQ (g.parens m text d) free (r.parens m text u)
  unfolding r.parens
  fits_parens = after k.OpenParen closed_expr _ free fits_closed
      (λ t. some_both (g.expr m text d) (closes t) some_expr_at (λ a. some_map k.CloseParen (λ _. enclosure t a)))

  abbrev list_stops : Kind → Bool
  list_stops = series_stops sum_stops

  abbrev ends_list : List Expr → Phrase Token (List Expr)
  ends_list xs = word k.CloseParen >> nothing xs

  fits_sums : FitsQ (g.series (g.sum m text d)) (of list_stops) (r.series (r.sum m text u))
  unfolding same_kind
  fits_sums = fits_series (g.sum m text d) (r.sum m text u) sum_stops refl fits_sum some_sum

  pub fits_closed_sums : FitsQ (Both (g.series (g.sum m text d)) ends_list) free (r.series (r.sum m text u) >>= (λ xs. expect k.CloseParen >>= (λ _. pure xs)))
  unfolding same_kind
  fits_closed_sums = good_bind (g.series (g.sum m text d)) ends_list (r.series (r.sum m text u)) _ (of list_stops) free fits_sums
      (λ xs. word_map k.CloseParen (λ _. xs) free)
      (λ xs ys rest b l e. avoids_word list_stops k.CloseParen (λ _. nothing xs) refl ys rest b l)
      (λ xs. some_map k.CloseParen (λ _. xs))

  fits_listed : FitsQ (g.listed m text d) free (r.listed m text u)
  unfolding r.listed
  fits_listed = after k.OpenParen (λ _. Both (g.series (g.sum m text d)) ends_list) _ free (λ _. fits_closed_sums)
      (λ _. some_both (g.series (g.sum m text d)) ends_list (some_series (g.sum m text d) some_sum) (λ xs. some_map k.CloseParen (λ _. xs)))

  -- the rows or the expression that COUNT counts
  abbrev all_rows : Phrase Token (Option Expr)
  all_rows = word k.Star >> nothing Opt.None

  abbrev ends_count : Option Expr → Phrase Token (Option Expr)
  ends_count x = word k.CloseParen >> nothing x

  fits_star_or_expr : FitsQ (g.star_or_expr m text d) (of expr_stops) (r.star_or_expr m text u)
  unfolding r.star_or_expr same_kind
  fits_star_or_expr = good_either all_rows (Both (g.expr m text d) (λ a. nothing (Opt.Some a))) _ _ (is k.Star) (of expr_stops)
      (word_map k.Star (λ _. Opt.None) (of expr_stops))
      (good_map (g.expr m text d) (r.expr m text u) (of expr_stops) fits_expr_at (λ a. Opt.Some a))
      (starts_word k.Star (λ _. nothing Opt.None))
      (λ xs rest a l e. avoids_both (is k.Star) (g.expr m text d) (λ a. nothing (Opt.Some a)) (avoids_expr_at (λ x. same_kind x k.Star) refl) xs rest a l)

  some_star_or_expr : Some (g.star_or_expr m text d)
  some_star_or_expr = let s = some_map k.Star (λ _. Opt.None) in record { text = s.text; value = s.value; reads = inl s.reads }

  pub fits_closed_count : FitsQ (Both (g.star_or_expr m text d) ends_count) free (r.star_or_expr m text u >>= (λ x. expect k.CloseParen >>= (λ _. pure x)))
  unfolding same_kind
  fits_closed_count = good_bind (g.star_or_expr m text d) ends_count (r.star_or_expr m text u) _ (of expr_stops) free fits_star_or_expr
      (λ x. word_map k.CloseParen (λ _. x) free)
      (λ x ys rest b l e. avoids_word expr_stops k.CloseParen (λ _. nothing x) refl ys rest b l)
      (λ x. some_map k.CloseParen (λ _. x))

  fits_counted : FitsQ (g.counted m text d) free (r.counted m text u)
  unfolding r.counted
  fits_counted = after k.OpenParen (λ _. Both (g.star_or_expr m text d) ends_count) _ free (λ _. fits_closed_count)
      (λ _. some_both (g.star_or_expr m text d) ends_count some_star_or_expr (λ x. some_map k.CloseParen (λ _. x)))

  -- what COALESCE chooses from
  abbrev choice_stops : Kind → Bool
  choice_stops = series_stops expr_stops

  abbrev others : Expr → Phrase Token Choices
  others a = word k.Comma >> Both (g.series (g.expr m text d)) (λ xs. nothing (choice a xs))

  some_others : (a : Expr) → Some (others a)
  some_others a = some_both (word k.Comma) _ (some_word k.Comma) (λ _. some_both (g.series (g.expr m text d)) _ (some_series (g.expr m text d) some_expr_at) (λ xs. some_nothing (choice a xs)))

  fits_exprs : FitsQ (g.series (g.expr m text d)) (of choice_stops) (r.series (r.expr m text u))
  unfolding same_kind
  fits_exprs = fits_series (g.expr m text d) (r.expr m text u) expr_stops refl fits_expr_at some_expr_at

  fits_others : (a : Expr) → FitsQ (others a) (of choice_stops) (expect k.Comma >>= (λ _. r.series (r.expr m text u) >>= (λ xs. pure (choice a xs))))
  fits_others a = after k.Comma (λ _. Both (g.series (g.expr m text d)) (λ xs. nothing (choice a xs))) _ (of choice_stops)
      (λ _. good_map (g.series (g.expr m text d)) (r.series (r.expr m text u)) (of choice_stops) fits_exprs (λ xs. choice a xs))
      (λ _. some_both (g.series (g.expr m text d)) _ (some_series (g.expr m text d) some_expr_at) (λ xs. some_nothing (choice a xs)))

  fits_alternatives : FitsQ (g.alternatives m text d) (of choice_stops) (r.alternatives m text u)
  unfolding r.alternatives same_kind
  fits_alternatives = good_bind (g.expr m text d) others (r.expr m text u) _ (of expr_stops) (of choice_stops) fits_expr_at fits_others
      (λ a ys rest b l e. avoids_word expr_stops k.Comma (λ _. Both (g.series (g.expr m text d)) (λ xs. nothing (choice a xs))) refl ys rest b l)
      some_others

  some_alternatives : Some (g.alternatives m text d)
  some_alternatives = some_both (g.expr m text d) others some_expr_at some_others

  abbrev ends_choices : Choices → Phrase Token Choices
  ends_choices x = word k.CloseParen >> nothing x

  pub fits_closed_choices : FitsQ (Both (g.alternatives m text d) ends_choices) free (r.alternatives m text u >>= (λ x. expect k.CloseParen >>= (λ _. pure x)))
  unfolding same_kind
  fits_closed_choices = good_bind (g.alternatives m text d) ends_choices (r.alternatives m text u) _ (of choice_stops) free fits_alternatives
      (λ x. word_map k.CloseParen (λ _. x) free)
      (λ x ys rest b l e. avoids_word choice_stops k.CloseParen (λ _. nothing x) refl ys rest b l)
      (λ x. some_map k.CloseParen (λ _. x))

  fits_choices : FitsQ (g.choices m text d) free (r.choices m text u)
  unfolding r.choices
  fits_choices = after k.OpenParen (λ _. Both (g.alternatives m text d) ends_choices) _ free (λ _. fits_closed_choices)
      (λ _. some_both (g.alternatives m text d) ends_choices some_alternatives (λ x. some_map k.CloseParen (λ _. x)))

  pub fits_negation : (t : Token) → FitsQ (Both (g.neg m text d) (λ a. nothing (node t.at (f.Not a)))) (of pred_stops) (r.neg m text u >>= (λ a. pure (node t.at (f.Not a))))
  fits_negation t = good_map (g.neg m text d) (r.neg m text u) (of pred_stops) fits_neg (λ a. node t.at (f.Not a))

  fits_nots : FitsQ (g.nots m text d) (of pred_stops) (r.nots m text u)
  unfolding r.nots
  fits_nots = after k.Not (λ t. Both (g.neg m text d) (λ a. nothing (node t.at (f.Not a)))) _ (of pred_stops) fits_negation
      (λ t. some_both (g.neg m text d) _ some_neg (λ a. some_nothing (node t.at (f.Not a))))

  pub fits_after_sign : (s : Token) → FitsQ (Both (g.atom m text d) (λ a. nothing (node s.at (f.Signed (sign_of s.kind) a)))) (of atom_stops) (r.atom m text u >>= (λ a. pure (node s.at (f.Signed (sign_of s.kind) a))))
  fits_after_sign s = good_map (g.atom m text d) (r.atom m text u) (of atom_stops) fits_atom (λ a. node s.at (f.Signed (sign_of s.kind) a))

  fits_signed : FitsQ (g.signed m text d) (of atom_stops) (r.signed m text u)
  unfolding r.signed
  fits_signed = after_of signs (λ s. Both (g.atom m text d) (λ a. nothing (node s.at (f.Signed (sign_of s.kind) a)))) _ (of atom_stops) fits_after_sign
      (λ s. some_both (g.atom m text d) _ some_atom (λ a. some_nothing (node s.at (f.Signed (sign_of s.kind) a))))

-- ---- the levels

-- a parenthesis that may be opened
opens_one : {A : Type 0} (L : Phrase Token A) (q : Parser A) → FitsQ L free q → Starts (is k.OpenParen) L → Opens L (opening q)
opens_one L q good starts = record {
  good = good_same (L <|> none) L free (opening q) (λ xs a l. ⊎_elim (λ x. x) (λ x. absurd x) l) (λ xs a l. inl l)
      (good_either L none q (refuse Unexpected) (is k.OpenParen) free good (good_refuse Unexpected free) starts (λ xs rest a l e. absurd l));
  starts = starts;
  shut = shut_opening q;
}

-- one that may not
opens_none : {A : Type 0} → Opens {A = A} none (opening (refuse TooDeep))
opens_none = opens_one none (refuse TooDeep) (good_refuse TooDeep free) (starts_none (is k.OpenParen))

pub level : (m : Asked) (text : Bytes) (n : ℕ) → Level (g.depth m text n) (r.under m text n)
unfolding g.depth r.under
level m text zero = record {
  parens = opens_none;
  counted = opens_none;
  list = opens_none;
  choices = opens_none;
  nots = good_refuse TooDeep (of pred_stops);
  nots_start = starts_none (is k.Not);
  signed = good_refuse TooDeep (of atom_stops);
  signed_start = starts_none (of signs);
}
level m text (suc n) =
    let d = g.depth m text n in
    let u = r.under m text n in
    let v = level m text n in
    record {
      parens = opens_one (g.parens m text d) (r.parens m text u) (fits_parens m text d u v) (starts_word k.OpenParen _);
      counted = opens_one (g.counted m text d) (r.counted m text u) (fits_counted m text d u v) (starts_word k.OpenParen _);
      list = opens_one (g.listed m text d) (r.listed m text u) (fits_listed m text d u v) (starts_word k.OpenParen _);
      choices = opens_one (g.choices m text d) (r.choices m text u) (fits_choices m text d u v) (starts_word k.OpenParen _);
      nots = fits_nots m text d u v;
      nots_start = starts_word k.Not _;
      signed = fits_signed m text d u v;
      signed_start = starts_of signs _;
    }

pub fits_expr : (m : Asked) (text : Bytes) (n : ℕ) → FitsQ (g.expr m text (g.depth m text n)) (of expr_stops) (r.expr m text (r.under m text n))
fits_expr m text n = fits_expr_at m text (g.depth m text n) (r.under m text n) (level m text n)

pub some_expr : (m : Asked) (text : Bytes) (n : ℕ) → Some (g.expr m text (g.depth m text n))
some_expr m text n = some_expr_at m text (g.depth m text n) (r.under m text n) (level m text n)

-- what an expression begins with
abbrev pub expr_kinds : List Kind
expr_kinds = k.Not ∷ k.Plus ∷ k.Minus ∷ k.Digits ∷ k.Fraction ∷ k.Quoted ∷ k.Date ∷ k.Name ∷ k.Count ∷ k.Sum ∷ k.Min ∷ k.Max ∷ k.Avg ∷ k.Coalesce ∷ k.OpenParen ∷ []

pub avoids_expr : (m : Asked) (text : Bytes) (n : ℕ) (h : Kind → Bool) → apart expr_kinds h ≡ true → Avoids (of h) (g.expr m text (g.depth m text n))
avoids_expr m text n = avoids_expr_at m text (g.depth m text n) (r.under m text n) (level m text n)
