-- Steps of typing: what each gives, where the literals of the aggregates so far are as the grammar has them.
use Rattle.std.proofs.Common.{◌≡◌, List, Ok, subst}
use Rattle.std.specs.Prelude.{All}
use Rattle.std.specs.Option.{ForSome}
use Rattle.typed_trees.specs.declared.typed.Aggregate.{Aggregate}
use Rattle.query_types.specs.Outcomes.{Outcome, Collecting, ◌>>=◌, pure, lift}
use Rattle.query_types.proofs.OutcomeLaws.{then_ok, both_same}
use Rattle.written_queries.specs.Laws.{IsAsWritten}

abbrev pub HasLiterals : Aggregate → Type 0
HasLiterals a = ForSome a.argument IsAsWritten

abbrev pub AreWritten : List Aggregate → Type 0
AreWritten l = All HasLiterals l

pub record Makes {A : Type 0} (P : A → Type 0) (p : Collecting A) : Type 0 where
  pub gives : (l m : List Aggregate) (a : A) → AreWritten l → p l ≡ Ok (a, m) → P a × AreWritten m

pub makes_same : {A : Type 0} (P : A → Type 0) (a b : A) (l m : List Aggregate) → P a → AreWritten l → ◌≡◌ {A = Outcome (A × List Aggregate)} (Ok (a, l)) (Ok (b, m)) → P b × AreWritten m
makes_same P a b l m h w e = let x = both_same a b l m e in (subst P x.0 h, subst AreWritten x.1 w)

pub makes_pure : {A : Type 0} {P : A → Type 0} (a : A) → P a → Makes P (pure a)
makes_pure {P = P} a h = record { gives = λ l m b w e. makes_same P a b l m h w e }

pub makes_lift : {A : Type 0} {P : A → Type 0} (o : Outcome A) → ((a : A) → o ≡ Ok a → P a) → Makes P (lift o)
makes_lift {P = P} o h = record {
  gives = λ l m b w e.
      let x = then_ok o (λ a. Ok (a, l)) (b, m) e in
      makes_same P x.0 b l m (h x.0 x.1) w x.2;
}

pub makes_then : {A B : Type 0} {P : A → Type 0} {Q : B → Type 0} {p : Collecting A} {q : A → Collecting B} → Makes P p → ((a : A) → P a → Makes Q (q a)) → Makes Q (p >>= q)
makes_then {p = p} {q = q} h k = record {
  gives = λ l n b w e.
      let x = then_ok (p l) (λ r. q r.0 r.1) (b, n) e in
      let y = h.gives l x.0.1 x.0.0 w x.1 in
      (k x.0.0 y.0).gives x.0.1 n b y.1 x.2;
}
