-- What may open a level, by how many may still be opened.
use Rattle.std.proofs.Common.{◌≡◌, ℕ, zero, suc, ◌-◌, ◌<◌, Bool, true, false, cond, List, [], ◌∷◌, length, Ok, Err, refl, ap, arith}
use Rattle.phrases.specs.declared.refusal.ReadError.TheVariants.{Refused}
use Rattle.phrases.specs.Parsers.{Outcome, ended, next, refuse}
use Rattle.sql_read.specs.declared.kind.Kind.TheVariants as k
use Rattle.sql_read.specs.declared.token_list.Token.{Token}
use Rattle.sql_read.specs.Schema.{is}
use Rattle.query_read.specs.declared.fault.Fault.{Fault}
use Rattle.query_read.specs.declared.fault.Fault.TheVariants.{Unexpected, TooDeep}
use Rattle.sql_read.specs.Lexis.{Bytes}
use Rattle.query_read.specs.Asked.{Asked}
use Rattle.query_read.specs.ExpressionParsers.{nothing_under, one_under, under, opening, shut}

pub under_none : (m : Asked) (text : Bytes) (n : ℕ) → n ≡ 0 → under m text n ≡ nothing_under
unfolding under
under_none m text n e = ap (under m text) e

pub under_more : (m : Asked) (text : Bytes) (n : ℕ) → 0 < n → under m text n ≡ one_under m text (under m text (n - 1))
unfolding under
under_more m text zero h = absurd (omega arith)
under_more m text (suc n) h = let e : n ≡ suc n - 1 = omega arith in ap (λ k. one_under m text (under m text k)) e

pub shut_is : {A : Type 0} (ts : List Token) → opening {A = A} (refuse TooDeep) ts ≡ Err (shut ts)
shut_is {A = A} ts = by_test (next (is k.OpenParen) ts)
  where
    by_test : (b : Bool) → ◌≡◌ {A = Outcome Token Fault A} (cond b (Err (Refused TooDeep (length ts))) (Err (Refused Unexpected (length ts)))) (Err (cond b (Refused TooDeep (length ts)) (Refused Unexpected (length ts))))
    by_test true = refl
    by_test false = refl

-- tokens that are left are too many
pub left_over : {A : Type 0} (o : Outcome Token Fault A) (a : A) (rest : List Token) → o ≡ Ok (a, rest) → 0 < length rest → ended Unexpected o ≡ Err (Refused Unexpected (length rest))
left_over o a [] h some = absurd (omega arith)
left_over o a (t ∷ rest) h some = ap (ended Unexpected) h
