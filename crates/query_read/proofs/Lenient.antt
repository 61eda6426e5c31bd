-- Asking less, or more levels, changes nothing but what was refused for it.
use Rattle.std.proofs.Common.{◌≡◌, ℕ, Bool, true, false, cond, ◌&&◌, List, [], ◌∷◌, ◌++◌, length, Ok, Err, refl, ◌⊎◌, inl, inr, ℤ, arith}
use Rattle.phrases.specs.declared.refusal.ReadError.TheVariants.{Refused}
use Rattle.phrases.specs.Parsers as p
use Rattle.phrases.specs.Parsers.{Outcome, pure, refuse, either, repeat, ◌>>=◌, ◌>>◌}
use Rattle.phrases.proofs.Deeper.{Rel, Within, Passes, rel_pure, rel_refuse, rel_expect, rel_bind, rel_either, rel_repeat, rel_after, rel_map}
use Rattle.sql_read.specs.declared.kind.Kind.{Kind}
use Rattle.sql_read.specs.declared.kind.Kind.TheVariants as k
use Rattle.sql_read.specs.declared.token_list.Token.{Token}
use Rattle.sql_read.specs.Lexis.{Bytes}
use Rattle.sql_read.specs.Schema.{is}
use Rattle.query_read.specs.declared.fault.Fault.{Fault}
use Rattle.query_read.specs.declared.fault.Fault.TheVariants.{Unexpected}
use Rattle.query_trees.specs.declared.expr.BinaryOp.{BinaryOp}
use Rattle.query_trees.specs.declared.expr.BinaryOp.TheVariants as op
use Rattle.query_trees.specs.declared.expr.Polarity.{Polarity}
use Rattle.query_trees.specs.declared.expr.Polarity.TheVariants.{Plain, Negated}
use Rattle.query_trees.specs.declared.expr.Expr.{Expr}
use Rattle.query_read.specs.Asked.{Asked}
use Rattle.query_read.specs.Days.{moved}
use Rattle.query_read.specs.Classes.{multiplies, ranges}
use Rattle.query_read.specs.Nodes.{signs, steps, compares, numerals, aggregates, of, sign_of}
use Rattle.query_read.specs.ExpressionParsers as r
use Rattle.query_read.specs.ExpressionParsers.{Parser, Under, expect, expect_of, opening}

-- ---- tokens with a fault of their own

pub rel_sound : (deep fault : Fault) → (Unexpected ≡ deep → ⊥) → (fault ≡ deep → ⊥) → (test bad : Token → Bool) → Rel deep (r.sound fault test bad) (r.sound fault test bad)
unfolding r.sound
rel_sound deep fault other ne test bad = rel_either deep (λ t. test t && bad t) (refuse fault) (refuse fault) (p.expect Unexpected test) (p.expect Unexpected test) (rel_refuse deep fault ne) (rel_expect deep Unexpected other test)

-- what was bad is taken
module _ (deep : Fault) (other : Unexpected ≡ deep → ⊥) (test bad : Token → Bool) where
  abbrev asked : Bool → Bool → Token → List Token → Outcome Token Fault Token
  asked b d t s = cond (b && d) (Err (Refused deep (length (t ∷ s)))) (cond b (Ok (t, s)) (Err (Refused Unexpected (length (t ∷ s)))))

  below_at : (b d : Bool) (t : Token) (s : List Token) → (asked b d t s ≡ asked b false t s) ⊎ ((left : ℕ) × (asked b d t s ≡ Err (Refused deep left)))
  below_at true true t s = inr (length (t ∷ s), refl)
  below_at true false t s = inl refl
  below_at false d t s = inl refl

  deeper_at : (b d : Bool) (t : Token) (s : List Token) (left : ℕ) → asked b d t s ≡ Err (Refused deep left) → Passes left (asked b false t s)
  deeper_at true true t s left h = let same : length (t ∷ s) ≡ left = cc in (length s, omega (arith, same), omega arith)
  deeper_at true false t s left h = absurd (cc)
  deeper_at false d t s left h = absurd (other (cc))

  within_at : (b : Bool) (t : Token) (s : List Token) → Within (length (t ∷ s)) (asked b false t s)
  within_at true t s = omega arith
  within_at false t s = omega arith

  below_all : (ts : List Token) → (r.sound deep test bad ts ≡ r.sound deep test (λ _. false) ts) ⊎ ((left : ℕ) × (r.sound deep test bad ts ≡ Err (Refused deep left)))
  unfolding r.sound p.expect
  below_all [] = inl refl
  below_all (t ∷ s) = below_at (test t) (bad t) t s

  deeper_all : (ts : List Token) (left : ℕ) → r.sound deep test bad ts ≡ Err (Refused deep left) → Passes left (r.sound deep test (λ _. false) ts)
  unfolding r.sound p.expect
  deeper_all [] left h = absurd (other (cc))
  deeper_all (t ∷ s) left h = deeper_at (test t) (bad t) t s left h

  within_all : (ts : List Token) → Within (length ts) (r.sound deep test (λ _. false) ts)
  unfolding r.sound p.expect
  within_all [] = omega arith
  within_all (t ∷ s) = within_at (test t) t s

  pub rel_lenient : Rel deep (r.sound deep test bad) (r.sound deep test (λ _. false))
  rel_lenient = record { below = below_all; deeper = deeper_all; shrinks = within_all }

-- ---- what is asked

-- the second asks less of what has this fault, and no more of anything else
pub record Eases (deep : Fault) (m n : Asked) : Type 0 where
  pub other : Unexpected ≡ deep → ⊥
  pub dates : (text : Bytes) → Rel deep (r.date_text m text) (r.date_text n text)
  pub spans : (text : Bytes) → Rel deep (r.span_text m text) (r.span_text n text)
  pub days : (day : ℤ) → Rel deep (r.last_day m day) (r.last_day n day)

-- the second opens what the first opens
pub record Opens (deep : Fault) (u v : Under) : Type 0 where
  pub parens : Rel deep u.parens v.parens
  pub counted : Rel deep u.counted v.counted
  pub list : Rel deep u.list v.list
  pub choices : Rel deep u.choices v.choices
  pub nots : (s t : Parser Expr) → Rel deep s t → Rel deep (either (is k.Not) u.nots s) (either (is k.Not) v.nots t)
  pub signed : (s t : Parser Expr) → Rel deep s t → Rel deep (either (of signs) u.signed s) (either (of signs) v.signed t)

module _ (deep : Fault) (other : Unexpected ≡ deep → ⊥) where
  pub after : {A : Type 0} (kind : Kind) (q s : Token → Parser A) → ((t : Token) → Rel deep (q t) (s t)) → Rel deep (expect kind >>= q) (expect kind >>= s)
  after kind q s h = rel_after deep Unexpected other (is kind) q s h

  pub after_of : {A : Type 0} (test : Kind → Bool) (q s : Token → Parser A) → ((t : Token) → Rel deep (q t) (s t)) → Rel deep (expect_of test >>= q) (expect_of test >>= s)
  after_of test q s h = rel_after deep Unexpected other (of test) q s h

  pub ends : {A : Type 0} (a : A) → Rel deep (pure {T = Token} a) (pure a)
  ends a = rel_pure deep a

  rel_another : {A : Type 0} (q s : Parser A) → Rel deep q s → (xs : List A) → Rel deep (r.another q xs) (r.another s xs)
  unfolding r.another
  rel_another q s h xs = after k.Comma _ _ (λ _. rel_map deep q s (λ x. xs ++ x ∷ []) h)

  pub rel_series : {A : Type 0} (q s : Parser A) → Rel deep q s → Rel deep (r.series q) (r.series s)
  unfolding r.series
  rel_series q s h = rel_bind deep q s _ _ h (λ x. rel_repeat deep (is k.Comma) (r.another q) (r.another s) (rel_another q s h) (x ∷ []))

  pub rel_column : (text : Bytes) → Rel deep (r.column text) (r.column text)
  unfolding r.column
  rel_column text = after k.Name _ _ (λ n. rel_either deep (is k.Dot) _ _ _ _ (after k.Dot _ _ (λ _. after k.Name _ _ (λ c. ends _))) (ends _))

  rel_number : Rel deep r.number r.number
  unfolding r.number
  rel_number = after_of numerals _ _ (λ t. ends _)

  rel_literal : (text : Bytes) → Rel deep (r.literal text) (r.literal text)
  unfolding r.literal
  rel_literal text = after k.Quoted _ _ (λ t. ends _)

  rel_reference : (text : Bytes) → Rel deep (r.reference text) (r.reference text)
  unfolding r.reference
  rel_reference text = rel_map deep (r.column text) (r.column text) _ (rel_column text)

  rel_over : (a : Expr) → Rel deep (r.over a) (r.over a)
  unfolding r.over r.divisor
  rel_over a = after k.Slash _ _ (λ t. rel_map deep r.divisor r.divisor _ (rel_either deep (of signs) _ _ _ _ (after_of signs _ _ (λ s. after k.Digits _ _ (λ n. ends _))) (after k.Digits _ _ (λ n. ends _))))

  rel_operation : (kind : Kind) (o : BinaryOp) (q s : Parser Expr) → Rel deep q s → (a : Expr) → Rel deep (r.operation kind o q a) (r.operation kind o s a)
  unfolding r.operation
  rel_operation kind o q s h a = after kind _ _ (λ t. rel_map deep q s _ h)

  rel_nullity : (a : Expr) → Rel deep (r.nullity a) (r.nullity a)
  unfolding r.nullity r.polarity
  rel_nullity a = after k.Is _ _ (λ t. rel_bind deep r.polarity r.polarity _ _ (rel_either deep (is k.Not) _ _ _ _ (after k.Not _ _ (λ _. ends Negated)) (ends Plain)) (λ p. after k.Null _ _ (λ _. ends _)))

module _ (deep : Fault) (m n : Asked) (e : Eases deep m n) (text : Bytes) where
  rel_step : (day : ℤ) → Rel deep (r.step m text day) (r.step n text day)
  unfolding r.step
  rel_step day = after_of deep e.other steps _ _ (λ s. after deep e.other k.Interval _ _ (λ _. rel_bind deep (r.span_text m text) (r.span_text n text) _ _ (e.spans text) (λ days. e.days (moved (sign_of s.kind) days day))))

  rel_date : Rel deep (r.date m text) (r.date n text)
  unfolding r.date
  rel_date = after deep e.other k.Date _ _ (λ t. rel_bind deep (r.date_text m text) (r.date_text n text) _ _ (e.dates text)
      (λ first. rel_map deep (r.more_steps m text first) (r.more_steps n text first) _ (rel_repeat deep (of steps) (r.step m text) (r.step n text) rel_step first)))

  module _ (u v : Under) (o : Opens deep u v) where
    rel_count : Rel deep (r.count u) (r.count v)
    unfolding r.count
    rel_count = after deep e.other k.Count _ _ (λ t. rel_map deep u.counted v.counted _ o.counted)

    rel_coalesce : Rel deep (r.coalesce u) (r.coalesce v)
    unfolding r.coalesce
    rel_coalesce = after deep e.other k.Coalesce _ _ (λ t. rel_map deep u.choices v.choices _ o.choices)

    rel_aggregate : Rel deep (r.aggregate u) (r.aggregate v)
    unfolding r.aggregate
    rel_aggregate = after_of deep e.other aggregates _ _ (λ t. rel_map deep u.parens v.parens _ o.parens)

    rel_enclosed : Rel deep (r.enclosed u) (r.enclosed v)
    unfolding r.enclosed
    rel_enclosed = rel_map deep u.parens v.parens _ o.parens

    rel_atom : Rel deep (r.atom m text u) (r.atom n text v)
    unfolding r.atom
    rel_atom = rel_either deep (of numerals) _ _ _ _ (rel_number deep e.other)
        (rel_either deep (is k.Quoted) _ _ _ _ (rel_literal deep e.other text)
        (rel_either deep (is k.Date) _ _ _ _ rel_date
        (rel_either deep (is k.Name) _ _ _ _ (rel_reference deep e.other text)
        (rel_either deep (is k.Count) _ _ _ _ rel_count
        (rel_either deep (of aggregates) _ _ _ _ rel_aggregate
        (rel_either deep (is k.Coalesce) _ _ _ _ rel_coalesce rel_enclosed))))))

    rel_factor : Rel deep (r.factor m text u) (r.factor n text v)
    unfolding r.factor
    rel_factor = o.signed (r.atom m text u) (r.atom n text v) rel_atom

    rel_multiplied : (a : Expr) → Rel deep (r.multiplied m text u a) (r.multiplied n text v a)
    unfolding r.multiplied r.times
    rel_multiplied a = rel_either deep (is k.Star) _ _ _ _ (after deep e.other k.Star _ _ (λ t. rel_map deep (r.factor m text u) (r.factor n text v) _ rel_factor)) (rel_over deep e.other a)

    rel_term : Rel deep (r.term m text u) (r.term n text v)
    unfolding r.term
    rel_term = rel_bind deep (r.factor m text u) (r.factor n text v) _ _ rel_factor (rel_repeat deep (of multiplies) (r.multiplied m text u) (r.multiplied n text v) rel_multiplied)

    rel_added : (a : Expr) → Rel deep (r.added m text u a) (r.added n text v a)
    unfolding r.added
    rel_added a = after_of deep e.other signs _ _ (λ s. rel_map deep (r.term m text u) (r.term n text v) _ rel_term)

    rel_sum : Rel deep (r.sum m text u) (r.sum n text v)
    unfolding r.sum
    rel_sum = rel_bind deep (r.term m text u) (r.term n text v) _ _ rel_term (rel_repeat deep (of signs) (r.added m text u) (r.added n text v) rel_added)

    rel_compared : (a : Expr) → Rel deep (r.compared m text u a) (r.compared n text v a)
    unfolding r.compared
    rel_compared a = after_of deep e.other compares _ _ (λ t. rel_map deep (r.sum m text u) (r.sum n text v) _ rel_sum)

    rel_between : (s : Polarity) (a : Expr) → Rel deep (r.between m text u s a) (r.between n text v s a)
    unfolding r.between
    rel_between s a = after deep e.other k.Between _ _ (λ t. rel_bind deep (r.sum m text u) (r.sum n text v) _ _ rel_sum (λ low. after deep e.other k.And _ _ (λ _. rel_map deep (r.sum m text u) (r.sum n text v) _ rel_sum)))

    rel_contained : (s : Polarity) (a : Expr) → Rel deep (r.contained u s a) (r.contained v s a)
    unfolding r.contained
    rel_contained s a = after deep e.other k.In _ _ (λ t. rel_map deep u.list v.list _ o.list)

    rel_ranged : (s : Polarity) (a : Expr) → Rel deep (r.ranged m text u s a) (r.ranged n text v s a)
    unfolding r.ranged
    rel_ranged s a = rel_either deep (is k.Between) _ _ _ _ (rel_between s a) (rel_contained s a)

    rel_test : (a : Expr) → Rel deep (r.predicate_tail m text u a) (r.predicate_tail n text v a)
    unfolding r.predicate_tail r.negated
    rel_test a = rel_either deep (of compares) _ _ _ _ (rel_compared a)
        (rel_either deep (is k.Not) _ _ _ _ (after deep e.other k.Not _ _ (λ _. rel_ranged Negated a))
        (rel_either deep (of ranges) _ _ _ _ (rel_ranged Plain a)
        (rel_either deep (is k.Is) _ _ _ _ (rel_nullity deep e.other a) (ends deep e.other a))))

    rel_pred : Rel deep (r.pred m text u) (r.pred n text v)
    unfolding r.pred
    rel_pred = rel_bind deep (r.sum m text u) (r.sum n text v) _ _ rel_sum rel_test

    rel_neg : Rel deep (r.neg m text u) (r.neg n text v)
    unfolding r.neg
    rel_neg = o.nots (r.pred m text u) (r.pred n text v) rel_pred

    rel_conj : Rel deep (r.conj m text u) (r.conj n text v)
    unfolding r.conj
    rel_conj = rel_bind deep (r.neg m text u) (r.neg n text v) _ _ rel_neg (rel_repeat deep (is k.And) (r.operation k.And op.And (r.neg m text u)) (r.operation k.And op.And (r.neg n text v)) (rel_operation deep e.other k.And op.And (r.neg m text u) (r.neg n text v) rel_neg))

    pub rel_expr : Rel deep (r.expr m text u) (r.expr n text v)
    unfolding r.expr
    rel_expr = rel_bind deep (r.conj m text u) (r.conj n text v) _ _ rel_conj (rel_repeat deep (is k.Or) (r.operation k.Or op.Or (r.conj m text u)) (r.operation k.Or op.Or (r.conj n text v)) (rel_operation deep e.other k.Or op.Or (r.conj m text u) (r.conj n text v) rel_conj))

    pub rel_parens : Rel deep (r.parens m text u) (r.parens n text v)
    unfolding r.parens
    rel_parens = after deep e.other k.OpenParen _ _ (λ t. rel_bind deep (r.expr m text u) (r.expr n text v) _ _ rel_expr (λ a. after deep e.other k.CloseParen _ _ (λ _. ends deep e.other _)))

    pub rel_listed : Rel deep (r.listed m text u) (r.listed n text v)
    unfolding r.listed
    rel_listed = after deep e.other k.OpenParen _ _ (λ _. rel_bind deep (r.series (r.sum m text u)) (r.series (r.sum n text v)) _ _ (rel_series deep e.other (r.sum m text u) (r.sum n text v) rel_sum) (λ xs. after deep e.other k.CloseParen _ _ (λ _. ends deep e.other xs)))

    rel_star_or_expr : Rel deep (r.star_or_expr m text u) (r.star_or_expr n text v)
    unfolding r.star_or_expr
    rel_star_or_expr = rel_either deep (is k.Star) _ _ _ _ (after deep e.other k.Star _ _ (λ _. ends deep e.other _)) (rel_map deep (r.expr m text u) (r.expr n text v) _ rel_expr)

    pub rel_counted : Rel deep (r.counted m text u) (r.counted n text v)
    unfolding r.counted
    rel_counted = after deep e.other k.OpenParen _ _ (λ _. rel_bind deep (r.star_or_expr m text u) (r.star_or_expr n text v) _ _ rel_star_or_expr (λ x. after deep e.other k.CloseParen _ _ (λ _. ends deep e.other x)))

    rel_alternatives : Rel deep (r.alternatives m text u) (r.alternatives n text v)
    unfolding r.alternatives
    rel_alternatives = rel_bind deep (r.expr m text u) (r.expr n text v) _ _ rel_expr
        (λ a. after deep e.other k.Comma _ _ (λ _. rel_map deep (r.series (r.expr m text u)) (r.series (r.expr n text v)) _ (rel_series deep e.other (r.expr m text u) (r.expr n text v) rel_expr)))

    pub rel_choices : Rel deep (r.choices m text u) (r.choices n text v)
    unfolding r.choices
    rel_choices = after deep e.other k.OpenParen _ _ (λ _. rel_bind deep (r.alternatives m text u) (r.alternatives n text v) _ _ rel_alternatives (λ x. after deep e.other k.CloseParen _ _ (λ _. ends deep e.other x)))

    pub rel_nots : Rel deep (r.nots m text u) (r.nots n text v)
    unfolding r.nots
    rel_nots = after deep e.other k.Not _ _ (λ t. rel_map deep (r.neg m text u) (r.neg n text v) _ rel_neg)

    pub rel_signed : Rel deep (r.signed m text u) (r.signed n text v)
    unfolding r.signed
    rel_signed = after_of deep e.other signs _ _ (λ s. rel_map deep (r.atom m text u) (r.atom n text v) _ rel_atom)
