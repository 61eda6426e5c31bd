-- What the value of a parser is like, where each token has a value and a scale within bounds, and that the tokens that are left have so.
use Rattle.std.proofs.Common.{◌≡◌, ℕ, zero, suc, Bool, true, false, ◌&&◌, if◌then◌else◌, [], ◌∷◌, ◌++◌, length, refl, subst}
use Rattle.std.specs.Prelude.{Ok, Err}
use Rattle.std.specs.List.{All}
use Rattle.std.proofs.lemmas.List.Elements.{All-nil, All-cons, All-head, All-tail, All-push}
use Rattle.phrases.specs.declared.refusal.ReadError.TheVariants.{Refused}
use Rattle.phrases.specs.Parsers as p
use Rattle.phrases.specs.Parsers.{◌>>=◌, pure, refuse, next, either, turns, repeat}
use Rattle.phrases.proofs.Good.{bind_ok, ok_is}
use Rattle.sql_read.specs.declared.kind.Kind.TheVariants as k
use Rattle.sql_read.specs.declared.token_list.Token.{Token}
use Rattle.sql_read.specs.Numbers.{IsMeasured}
use Rattle.sql_read.specs.Schema.{is}
use Rattle.sql_read.specs.Tokens.{Tokens}
use Rattle.query_read.specs.declared.fault.Fault.{Fault}
use Rattle.query_read.specs.declared.fault.Fault.TheVariants.{Unexpected}
use Rattle.query_read.specs.ExpressionParsers as e
use Rattle.query_read.specs.ExpressionParsers.{Parser}

abbrev pub Within : Tokens → Type 0
Within = All IsMeasured

pub record Keeps {A : Type 0} (P : A → Type 0) (q : Parser A) : Type 0 where
  pub holds : (ts rest : Tokens) (a : A) → Within ts → q ts ≡ Ok (a, rest) → P a × Within rest

-- of whatever value
abbrev pub Any : {A : Type 0} → A → Type 0
Any a = Unit {0}

-- ---- one token

-- what is taken where a test passes
abbrev taken : Fault → Bool → Token → Tokens → p.Outcome Token Fault Token
taken fault b t ts = if b then Ok (t, ts) else Err (Refused fault (length (t ∷ ts)))

token_by : (P : Token → Type 0) (fault : Fault) (t u : Token) (ts rest : Tokens) (b : Bool) → (b ≡ true → P t) → Within ts → taken fault b t ts ≡ Ok (u, rest) → P u × Within rest
token_by P fault t u ts rest true has w h = let x = ok_is t u ts rest h in (subst P x.0 (has refl), subst Within x.1 w)
token_by P fault t u ts rest false has w h = absurd (cc)

pub keeps_token : (fault : Fault) (test : Token → Bool) → Keeps IsMeasured (p.expect fault test)
unfolding p.expect
keeps_token fault test = record { holds = by }
  where
    by : (ts rest : Tokens) (u : Token) → Within ts → p.expect fault test ts ≡ Ok (u, rest) → IsMeasured u × Within rest
    by [] rest u w h = absurd (cc)
    by (t ∷ ts) rest u w h = token_by IsMeasured fault t u ts rest (test t) (λ e. All-head IsMeasured t ts w) (All-tail IsMeasured t ts w) h

pub any_token : (fault : Fault) (test : Token → Bool) → Keeps Any (p.expect fault test)
any_token fault test = record { holds = λ ts rest u w h. (tt, ((keeps_token fault test).holds ts rest u w h).1) }

-- a token that is not bad
pub keeps_sound : (fault : Fault) (test bad : Token → Bool) → Keeps (λ t. bad t ≡ false) (e.sound fault test bad)
unfolding e.sound p.expect
keeps_sound fault test bad = record { holds = by }
  where
    Fair : Token → Type 0
    Fair t = bad t ≡ false

    pick : (t u : Token) (ts rest : Tokens) (b c : Bool) → bad t ≡ c → Within ts
        → (if b && c then Err (Refused fault (length (t ∷ ts))) else taken Unexpected b t ts) ≡ Ok (u, rest) → Fair u × Within rest
    pick t u ts rest true true fair w h = absurd (cc)
    pick t u ts rest true false fair w h = let x = ok_is t u ts rest h in (subst Fair x.0 fair, subst Within x.1 w)
    pick t u ts rest false c fair w h = absurd (cc)

    by : (ts rest : Tokens) (u : Token) → Within ts → e.sound fault test bad ts ≡ Ok (u, rest) → Fair u × Within rest
    by [] rest u w h = absurd (cc)
    by (t ∷ ts) rest u w h = pick t u ts rest (test t) (bad t) refl (All-tail IsMeasured t ts w) h

-- ---- parsers of parsers

pub keeps_value : {A : Type 0} (P : A → Type 0) (a : A) → P a → Keeps P (pure a)
keeps_value P a h = record { holds = λ ts rest b w e. let x = ok_is a b ts rest e in (subst P x.0 h, subst Within x.1 w) }

pub keeps_refused : {A : Type 0} (P : A → Type 0) (fault : Fault) → Keeps P (refuse fault)
keeps_refused P fault = record { holds = λ ts rest a w e. absurd (cc) }

pub keeps_both : {A B : Type 0} {Q : A → Type 0} {P : B → Type 0} {f : A → Parser B} (q : Parser A) → Keeps Q q → ((a : A) → Q a → Keeps P (f a)) → Keeps P (q >>= f)
keeps_both {f = f} q l m = record {
  holds = λ ts rest b w h.
      let x = bind_ok (q ts) f b rest h in
      let y = l.holds ts x.1 x.0 w x.2 in
      (m x.0 y.0).holds x.1 rest b y.1 x.3;
}

pub past : {A B : Type 0} {P : B → Type 0} {f : A → Parser B} (q : Parser A) → Keeps Any q → ((a : A) → Keeps P (f a)) → Keeps P (q >>= f)
past q l m = keeps_both q l (λ a any. m a)

-- a word, and what follows it
pub past_word : {B : Type 0} {P : B → Type 0} {f : Token → Parser B} (fault : Fault) (test : Token → Bool) → ((a : Token) → Keeps P (f a)) → Keeps P (p.expect fault test >>= f)
past_word fault test m = keeps_both (p.expect fault test) (keeps_token fault test) (λ a any. m a)

pub keeps_either : {A : Type 0} {P : A → Type 0} {l r : Parser A} (sel : Token → Bool) → Keeps P l → Keeps P r → Keeps P (either sel l r)
keeps_either {A = A} {P = P} {l = l} {r = r} sel x y = record { holds = λ ts rest a w h. by ts rest a (next sel ts) w h }
  where
    by : (ts rest : Tokens) (a : A) (b : Bool) → Within ts → (if b then l ts else r ts) ≡ Ok (a, rest) → P a × Within rest
    by ts rest a true w h = x.holds ts rest a w h
    by ts rest a false w h = y.holds ts rest a w h

keeps_turns : {A : Type 0} (P : A → Type 0) (sel : Token → Bool) (turn : A → Parser A) → ((a : A) → P a → Keeps P (turn a)) → (n : ℕ) (a : A) → P a → Keeps P (turns sel turn n a)
unfolding turns
keeps_turns P sel turn f zero a h = keeps_value P a h
keeps_turns P sel turn f (suc n) a h = keeps_either sel (keeps_both (turn a) (f a h) (λ b i. keeps_turns P sel turn f n b i)) (keeps_value P a h)

pub keeps_repeated : {A : Type 0} (P : A → Type 0) (sel : Token → Bool) (turn : A → Parser A) → ((a : A) → P a → Keeps P (turn a)) → (a : A) → P a → Keeps P (repeat sel turn a)
keeps_repeated P sel turn f a h = record { holds = λ ts rest c w i. (keeps_turns P sel turn f (length ts) a h).holds ts rest c w i }

-- one or more, with commas between them
pub keeps_series : {A : Type 0} (P : A → Type 0) (q : Parser A) → Keeps P q → Keeps (All P) (e.series q)
unfolding e.series e.another
keeps_series P q l =
    keeps_both q l (λ x h. keeps_repeated (All P) (is k.Comma) (e.another q)
    (λ xs all. past_word Unexpected (is k.Comma) (λ _. keeps_both q l (λ y i. keeps_value (All P) (xs ++ y ∷ []) (All-push P xs y all i)))) (x ∷ []) (All-cons P x [] h (All-nil P)))

-- where any value will do
pub any_value : {A : Type 0} (a : A) → Keeps Any (pure a)
any_value a = keeps_value Any a tt
