-- What the value of a parser is like, whatever its tokens.
use Rattle.std.proofs.Common.{◌≡◌, ℕ, zero, suc, Bool, true, false, if◌then◌else◌, length, ap, subst}
use Rattle.std.specs.Prelude.{Ok}
use Rattle.phrases.specs.Parsers.{◌>>=◌, pure, next, either, turns, repeat}
use Rattle.phrases.proofs.Good.{bind_ok}
use Rattle.sql_read.specs.declared.token_list.Token.{Token}
use Rattle.sql_read.specs.Tokens.{Tokens}
use Rattle.query_read.specs.ExpressionParsers.{Parser}

pub record Gives {A : Type 0} (P : A → Type 0) (p : Parser A) : Type 0 where
  pub holds : (ts rest : Tokens) (a : A) → p ts ≡ Ok (a, rest) → P a

pub gives_value : {A : Type 0} (P : A → Type 0) (a : A) → P a → Gives P (pure a)
gives_value {A = A} P a p = record {
  holds = λ ts rest b h.
      let both : ◌≡◌ {A = A × Tokens} (a, ts) (b, rest) = cc in
      subst P (ap (λ x. x.0) both) p;
}

pub gives_both : {A B : Type 0} {Q : A → Type 0} {P : B → Type 0} {f : A → Parser B} (p : Parser A) → Gives Q p → ((a : A) → Q a → Gives P (f a)) → Gives P (p >>= f)
gives_both {f = f} p l m = record { holds = λ ts rest b h. let x = bind_ok (p ts) f b rest h in (m x.0 (l.holds ts x.1 x.0 x.2)).holds x.1 rest b x.3 }

-- a parser of whatever value, and one that may depend on it
pub past : {A B : Type 0} {P : B → Type 0} {f : A → Parser B} (p : Parser A) → ((a : A) → Gives P (f a)) → Gives P (p >>= f)
past {f = f} p m = record { holds = λ ts rest b h. let x = bind_ok (p ts) f b rest h in (m x.0).holds x.1 rest b x.3 }

pub gives_either : {A : Type 0} {P : A → Type 0} {p q : Parser A} (sel : Token → Bool) → Gives P p → Gives P q → Gives P (either sel p q)
gives_either {A = A} {P = P} {p = p} {q = q} sel l m = record { holds = λ ts rest a h. by ts rest a (next sel ts) h }
  where
    by : (ts rest : Tokens) (a : A) (b : Bool) → (if b then p ts else q ts) ≡ Ok (a, rest) → P a
    by ts rest a true h = l.holds ts rest a h
    by ts rest a false h = m.holds ts rest a h

gives_turns : {A : Type 0} (P : A → Type 0) (sel : Token → Bool) (turn : A → Parser A) → ((a : A) → P a → Gives P (turn a)) → (n : ℕ) (a : A) → P a → Gives P (turns sel turn n a)
unfolding turns
gives_turns P sel turn f zero a p = gives_value P a p
gives_turns P sel turn f (suc n) a p = gives_either sel (gives_both (turn a) (f a p) (λ b q. gives_turns P sel turn f n b q)) (gives_value P a p)

pub gives_repeated : {A : Type 0} (P : A → Type 0) (sel : Token → Bool) (turn : A → Parser A) → ((a : A) → P a → Gives P (turn a)) → (a : A) → P a → Gives P (repeat sel turn a)
gives_repeated P sel turn f a p = record { holds = λ ts rest c h. (gives_turns P sel turn f (length ts) a p).holds ts rest c h }
