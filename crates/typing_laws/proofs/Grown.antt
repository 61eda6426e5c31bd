-- What typing adds to the aggregates of a query, and what an expression keeps as more of them come.
use Rattle.std.proofs.Common.{◌≡◌, ℕ, zero, suc, Bool, true, false, List, [], ◌∷◌, ◌++◌, length, Option, Some, Ok, refl, sym, ap, ◌∙◌, subst, append_assoc}
use Rattle.std.specs.Prelude.{All}
use Rattle.std.specs.Option.{ForSome}
use Rattle.std.proofs.lemmas.List.{append-nil}
use Rattle.std.proofs.lemmas.List.Elements.{All-nil, All-cons, All-append}
use Rattle.sql_read.specs.declared.definition.TableDef.{TableDef}
use Rattle.typed_trees.specs.declared.kinds.Role.{Role}
use Rattle.typed_trees.specs.declared.typed.Aggregate.{Aggregate}
use Rattle.typed_trees.specs.Columns.{columns_in}
use Rattle.typed_trees.specs.Sides.{stands}
use Rattle.typed_trees.specs.Typed.{IsAggregate}
use Rattle.typed_trees.specs.Types.{DataType, typed_as, type_of, aggregate_type, types_of}
use Rattle.query_types.specs.declared.scope.Called.{Called}
use Rattle.query_types.specs.declared.typing.Typed.{Typed}
use Rattle.query_types.specs.Expressions.{is_row}
use Rattle.query_types.specs.Names.{Scope, inside}
use Rattle.query_types.specs.Outcomes.{Outcome, Collecting, ◌>>=◌, pure, lift}
use Rattle.query_types.proofs.OutcomeLaws.{then_ok, both_same}
use Rattle.typing_laws.specs.Laws.{AreDeclared}
use Rattle.typing_laws.proofs.Columns.{places, IsStanding}

pub record IsGood (defs : List TableDef) (tables : List Called) (a : Aggregate) : Type 0 where
  pub is : IsAggregate a
  pub declared : ForSome a.argument (AreDeclared defs (places tables))

-- good aggregates came behind those before, on a row none
pub record Grown (s : Scope) (before after : List Aggregate) : Type 0 where
  pub new : List Aggregate
  pub is : after ≡ before ++ new
  pub good : All (IsGood s.defs s.tables) new
  pub none : is_row s.level ≡ true → after ≡ before

pub grown_none : (s : Scope) (l : List Aggregate) → Grown s l l
grown_none s l = record { new = []; is = sym (append-nil l); good = All-nil (IsGood s.defs s.tables); none = λ row. refl }

pub grown_met : (s : Scope) (l : List Aggregate) (a : Aggregate) → is_row s.level ≡ false → IsGood s.defs s.tables a → Grown s l (l ++ a ∷ [])
grown_met s l a group h = record { new = a ∷ []; is = refl; good = All-cons (IsGood s.defs s.tables) a [] h (All-nil (IsGood s.defs s.tables)); none = λ row. absurd (cc) }

pub grown_then : {s : Scope} {l m n : List Aggregate} → Grown s l m → Grown s m n → Grown s l n
grown_then {s = s} {l = l} g h = record {
  new = g.new ++ h.new;
  is = h.is ∙ (ap (λ x. x ++ h.new) g.is ∙ append_assoc l g.new h.new);
  good = All-append (IsGood s.defs s.tables) g.new h.new g.good h.good;
  none = λ row. h.none row ∙ g.none row;
}

-- inside an aggregate none came, and so outside it
grown_outside : (s : Scope) (l m : List Aggregate) → Grown (inside s) l m → Grown s l m
grown_outside s l m g = record { new = g.new; is = g.is; good = g.good; none = λ row. g.none refl }

-- ---- the types of aggregates, on a row any

abbrev pub Sees : Bool → List Aggregate → (ℕ → Option DataType) → Type 0
Sees true l at = Unit {0}
Sees false l at = (n : ℕ) (u : DataType) → types_of l n ≡ Some u → at n ≡ Some u

types_more : (l new : List Aggregate) (n : ℕ) (u : DataType) → types_of l n ≡ Some u → types_of (l ++ new) n ≡ Some u
types_more [] new n u e = absurd (cc)
types_more (a ∷ l) new zero u e = e
types_more (a ∷ l) new (suc n) u e = types_more l new n u e

pub types_last : (l : List Aggregate) (a : Aggregate) → types_of (l ++ a ∷ []) (length l) ≡ aggregate_type a
types_last [] a = refl
types_last (b ∷ l) a = types_last l a

sees_before : (row : Bool) (l new : List Aggregate) (at : ℕ → Option DataType) → Sees row (l ++ new) at → Sees row l at
sees_before true l new at h = tt
sees_before false l new at h = λ n u e. h n u (types_more l new n u e)

pub sees_grown : {s : Scope} {l m : List Aggregate} (row : Bool) (at : ℕ → Option DataType) → Grown s l m → Sees row m at → Sees row l at
sees_grown {l = l} row at g h = sees_before row l g.new at (subst (λ x. Sees row x at) g.is h)

-- ---- typed expressions

pub record Good (s : Scope) (role : Role) (l : List Aggregate) (t : Typed) : Type 0 where
  pub type : (at : ℕ → Option DataType) → Sees (is_row s.level) l at → type_of at t.value ≡ Some (typed_as t.kind t.scale)
  pub sides : stands t.value role ≡ true
  pub columns : All (IsStanding s) (columns_in t.value)

pub good_more : {s : Scope} {role : Role} {l m : List Aggregate} {t : Typed} → Grown s l m → Good s role l t → Good s role m t
good_more {s = s} g h = record { type = λ at sees. h.type at (sees_grown (is_row s.level) at g sees); sides = h.sides; columns = h.columns }

-- ---- steps: what each gives, with the aggregates so far

pub record From {A : Type 0} (s : Scope) (l : List Aggregate) (P : List Aggregate → A → Type 0) (p : Collecting A) : Type 0 where
  pub gives : (m : List Aggregate) (a : A) → p l ≡ Ok (a, m) → Grown s l m × P m a

pub from_same : {A : Type 0} (s : Scope) (P : List Aggregate → A → Type 0) (l m n : List Aggregate) (a b : A) → Grown s l m → P m a → ◌≡◌ {A = Outcome (A × List Aggregate)} (Ok (a, m)) (Ok (b, n)) → Grown s l n × P n b
from_same s P l m n a b g h e =
    let x = both_same a b m n e in
    (subst (λ k. Grown s l k) x.1 g, subst (λ k. P k b) x.1 (subst (λ c. P m c) x.0 h))

pub from_pure : {A : Type 0} {s : Scope} {l : List Aggregate} {P : List Aggregate → A → Type 0} (a : A) → P l a → From s l P (pure a)
from_pure {s = s} {l = l} {P = P} a h = record { gives = λ m b e. from_same s P l l m a b (grown_none s l) h e }

pub from_lift : {A : Type 0} {s : Scope} {l : List Aggregate} {P : List Aggregate → A → Type 0} (o : Outcome A) → ((a : A) → o ≡ Ok a → P l a) → From s l P (lift o)
from_lift {s = s} {l = l} {P = P} o h = record {
  gives = λ m b e.
      let x = then_ok o (λ a. Ok (a, l)) (b, m) e in
      from_same s P l l m x.0 b (grown_none s l) (h x.0 x.1) x.2;
}

pub from_then : {A B : Type 0} {s : Scope} {l : List Aggregate} {P : List Aggregate → A → Type 0} {Q : List Aggregate → B → Type 0} {p : Collecting A} {q : A → Collecting B} → From s l P p → ((a : A) (m : List Aggregate) → Grown s l m → P m a → From s m Q (q a)) → From s l Q (p >>= q)
from_then {l = l} {p = p} {q = q} h k = record {
  gives = λ n b e.
      let x = then_ok (p l) (λ r. q r.0 r.1) (b, n) e in
      let y = h.gives x.0.1 x.0.0 x.1 in
      let z = (k x.0.0 x.0.1 y.0 y.1).gives n b x.2 in
      (grown_then y.0 z.0, z.1);
}

-- what an argument gives inside an aggregate
pub from_inside : {A : Type 0} {l : List Aggregate} {P : List Aggregate → A → Type 0} {p : Collecting A} (s : Scope) → From (inside s) l P p → From s l P p
from_inside {l = l} s h = record {
  gives = λ m a e.
      let x = h.gives m a e in
      (grown_outside s l m x.0, x.1);
}
