-- Where ranges are not asked, a line is one that is a line with 0 for each of its numbers.
use Rattle.std.proofs.Common.{◌≡◌, ℕ, ◌^◌, ◌-◌, Bool, true, false, List, [], ◌∷◌, ◌++◌, map, pos, refl, ap, sym, ◌∙◌, subst, inl, inr, ⊎_elim}
use Rattle.std.specs.Prelude.{Option, Some, unwrap_or, if◌then◌else◌}
use Rattle.std.proofs.lemmas.List.{map-append}
use Rattle.phrases.specs.Phrases.{Phrase, Both, nothing, ◌<|>◌, Repeated, done, more}
use Rattle.voodoo_text.specs.declared.kind.Kind.{Kind}
use Rattle.voodoo_text.specs.declared.kind.Kind.TheVariants as k
use Rattle.voodoo_text.specs.declared.operator.Operator.{Operator}
use Rattle.voodoo_text.specs.declared.operator.Operator.TheVariants as o
use Rattle.voodoo_text.specs.declared.operator.SingleOperator.{SingleOperator}
use Rattle.voodoo_text.specs.declared.operator.SingleOperator.TheVariants as s
use Rattle.programs.specs.declared.order_keys.OrderPath.{OrderPath}
use Rattle.voodoo_text.specs.Kinds.{same_kind}
use Rattle.voodoo_text.specs.Values.{Bytes, integer_within, natural_within}
use Rattle.voodoo_text.specs.Tokens.{Token, token}
use Rattle.voodoo_text.specs.PlaceGrammar as place
use Rattle.voodoo_text.specs.PlaceGrammar.{ranges, order_alone, word, valued, held}
use Rattle.voodoo_text.specs.Grammar as g
use Rattle.voodoo_text.specs.GrammarLaws.{zeroed, SpellsLine}
use Rattle.voodoo_text.proofs.SameKinds.{kinds_one}
use Rattle.voodoo_text.proofs.TokenRules.{is_own}

-- the second phrase takes a list with 0 for each number where the first takes the list, and gives a value that goes with its value
record Like {A B : Type 0} (R : A → B → Type 0) (L : Phrase Token A) (M : Phrase Token B) : Type 0 where
  forth : (ts : List Token) (a : A) → L ts a → (b : B) × R a b × M (map zeroed ts) b
  back : (ts : List Token) (b : B) → M (map zeroed ts) b → (a : A) × R a b × L ts a

abbrev Any : {A B : Type 0} → A → B → Type 0
Any a b = Unit {0}

abbrev Same : {A : Type 0} → A → A → Type 0
Same a b = a ≡ b

-- ---- lists

cut_back : (ts l r : List Token) → map zeroed ts ≡ l ++ r → (xs : List Token) × (ys : List Token) × (ts ≡ xs ++ ys) × (map zeroed xs ≡ l) × (map zeroed ys ≡ r)
cut_back ts [] r e = ([], ts, refl, refl, e)
cut_back [] (u ∷ l) r e = absurd (cc)
cut_back (t ∷ ts) (u ∷ l) r e =
    let x : zeroed t ≡ u = cc in
    let y : map zeroed ts ≡ l ++ r = cc in
    let z = cut_back ts l r y in
    (t ∷ z.0, z.1, ap (λ (q : List Token). t ∷ q) z.2, (λ i. x i ∷ z.3 i), z.4)

nil_back : (ts : List Token) → map zeroed ts ≡ [] → ts ≡ []
nil_back [] e = refl
nil_back (t ∷ ts) e = absurd (cc)

one_back : (ts : List Token) (u : Token) → map zeroed ts ≡ u ∷ [] → (t : Token) × (ts ≡ t ∷ []) × (zeroed t ≡ u)
one_back [] u e = absurd (cc)
one_back (t ∷ ts) u e =
    let x : zeroed t ≡ u = cc in
    let y : map zeroed ts ≡ [] = cc in
    (t, ap (λ (q : List Token). t ∷ q) (nil_back ts y), x)

-- ---- one token

zero : Token
zero = token k.Number (48 ∷ [])

by_test : (t : Token) (b : Bool) → same_kind t.kind k.Number ≡ b → zeroed t ≡ (if b then token k.Number (48 ∷ []) else t)
by_test t b e = ap (λ (c : Bool). if c then token k.Number (48 ∷ []) else t) e

kept : (kind : Kind) (bytes : Bytes) → same_kind kind k.Number ≡ false → zeroed (token kind bytes) ≡ token kind bytes
kept kind bytes h = by_test (token kind bytes) false h

kept_back : (b : Bool) (t : Token) (kind : Kind) (bytes : Bytes) → same_kind t.kind k.Number ≡ b → same_kind kind k.Number ≡ false → zeroed t ≡ token kind bytes → t ≡ token kind bytes
kept_back true t kind bytes e h z =
    let n : k.Number ≡ kind = ap (λ (u : Token). u.kind) (sym (by_test t true e) ∙ z) in
    let yes : same_kind kind k.Number ≡ true = subst (λ c. same_kind c k.Number ≡ true) n (is_own k.Number) in
    absurd (cc)
kept_back false t kind bytes e h z = sym (by_test t false e) ∙ z

number_back : (b : Bool) (t : Token) (bytes : Bytes) → same_kind t.kind k.Number ≡ b → zeroed t ≡ token k.Number bytes → t.kind ≡ k.Number
number_back true t bytes e z = kinds_one t.kind k.Number e
number_back false t bytes e z = ap (λ (u : Token). u.kind) (sym (by_test t false e) ∙ z)

word_forth : (kind : Kind) (bytes : Bytes) (ts : List Token) → same_kind kind k.Number ≡ false → word kind ts bytes → word kind (map zeroed ts) bytes
word_forth kind bytes ts h e = ap (map zeroed) e ∙ ap (λ (u : Token). u ∷ []) (kept kind bytes h)

word_back : (kind : Kind) (bytes : Bytes) (ts : List Token) → same_kind kind k.Number ≡ false → word kind (map zeroed ts) bytes → word kind ts bytes
word_back kind bytes ts h e =
    let one = one_back ts (token kind bytes) e in
    one.1 ∙ ap (λ (u : Token). u ∷ []) (kept_back (same_kind one.0.kind k.Number) one.0 kind bytes refl h one.2)

a_word : (kind : Kind) → same_kind kind k.Number ≡ false → Like Same (word kind) (word kind)
a_word kind h = record { forth = λ ts a e. (a, refl, word_forth kind a ts h e); back = λ ts a e. (a, refl, word_back kind a ts h e) }

an_operator : Like Same place.operator place.operator
unfolding same_kind
an_operator = record {
  forth = λ ts a l. (a, refl, (l.0, word_forth k.Name l.0 ts refl l.1, l.2));
  back = λ ts a l. (a, refl, (l.0, word_back k.Name l.0 ts refl l.1, l.2));
}

a_persist : Like Same g.persist_word g.persist_word
unfolding same_kind
a_persist = record {
  forth = λ ts a l. (a, refl, (word_forth k.Name a ts refl l.0, l.1));
  back = λ ts a l. (a, refl, (word_back k.Name a ts refl l.0, l.1));
}

number_forth : (bytes : Bytes) (ts : List Token) → word k.Number ts bytes → word k.Number (map zeroed ts) (48 ∷ [])
unfolding same_kind
number_forth bytes ts e = ap (map zeroed) e

a_number : {A : Type 0} (nil : A) (within : Bytes → Option A) → within (48 ∷ []) ≡ Some nil → Like Any (valued k.Number (held order_alone nil within)) (valued k.Number (held ranges nil within))
a_number nil within e = record {
  forth = λ ts a l. (nil, tt, (48 ∷ [], number_forth l.0 ts l.1, e));
  back = λ ts b m.
      let one = one_back ts (token k.Number m.0) m.1 in
      let is = number_back (same_kind one.0.kind k.Number) one.0 m.0 refl one.2 in
      (unwrap_or (within one.0.word) nil, tt, (one.0.word, one.1 ∙ ap (λ kind. token kind one.0.word ∷ []) is, refl));
}

-- ---- phrases

ends : {A B : Type 0} {R : A → B → Type 0} (a : A) (b : B) → R a b → Like R (nothing a) (nothing b)
ends {R = R} a b r = record {
  forth = λ ts x l. (b, subst (λ y. R y b) l.1 r, (ap (map zeroed) l.0, refl));
  back = λ ts y m. (a, subst (λ z. R a z) m.1 r, (nil_back ts m.0, refl));
}

after : {A B C D : Type 0} {R : A → B → Type 0} {S : C → D → Type 0} {L : Phrase Token A} {M : Phrase Token B} {K : A → Phrase Token C} {H : B → Phrase Token D}
    → Like R L M → ((a : A) (b : B) → R a b → Like S (K a) (H b)) → Like S (Both L K) (Both M H)
after {M = M} {H = H} p q = record {
  forth = λ ts c l.
      let x = p.forth l.left l.between l.reads_left in
      let y = (q l.between x.0 x.1).forth l.right c l.reads_right in
      (y.0, y.1, record { left = map zeroed l.left; right = map zeroed l.right; between = x.0; reads_left = x.2; reads_right = y.2; cut = ap (map zeroed) l.cut ∙ map-append zeroed l.left l.right });
  back = λ ts d m.
      let z = cut_back ts m.left m.right m.cut in
      let x = p.back z.0 m.between (subst (λ u. M u m.between) (sym z.3) m.reads_left) in
      let y = (q x.0 m.between x.1).back z.1 d (subst (λ u. H m.between u d) (sym z.4) m.reads_right) in
      (y.0, y.1, record { left = z.0; right = z.1; between = x.0; reads_left = x.2; reads_right = y.2; cut = z.2 });
}

after_same : {A C D : Type 0} {S : C → D → Type 0} {L M : Phrase Token A} {K : A → Phrase Token C} {H : A → Phrase Token D}
    → Like Same L M → ((a : A) → Like S (K a) (H a)) → Like S (Both L K) (Both M H)
after_same {S = S} {K = K} {H = H} p q = after p (λ a b e. subst (λ y. Like S (K a) (H y)) e (q a))

after_any : {A B C D : Type 0} {S : C → D → Type 0} {L : Phrase Token A} {M : Phrase Token B} {K : A → Phrase Token C} {H : B → Phrase Token D}
    → Like Any L M → ((a : A) (b : B) → Like S (K a) (H b)) → Like S (Both L K) (Both M H)
after_any p q = after p (λ a b _. q a b)

either : {A B : Type 0} {R : A → B → Type 0} {L K : Phrase Token A} {M H : Phrase Token B} → Like R L M → Like R K H → Like R (L <|> K) (M <|> H)
either p q = record {
  forth = λ ts a l. ⊎_elim
      (λ x. let y = p.forth ts a x in (y.0, y.1, inl y.2))
      (λ x. let y = q.forth ts a x in (y.0, y.1, inr y.2))
      l;
  back = λ ts b m. ⊎_elim
      (λ x. let y = p.back ts b x in (y.0, y.1, inl y.2))
      (λ x. let y = q.back ts b x in (y.0, y.1, inr y.2))
      m;
}

repeated_forth : {A : Type 0} (L : A → Phrase Token A) → ((a : A) → Like Same (L a) (L a)) → (a c : A) (ts : List Token) → Repeated L a ts c → Repeated L a (map zeroed ts) c
repeated_forth L p _ _ _ (done a) = done a
repeated_forth L p _ _ _ (more a b c xs ys m r) =
    let x = (p a).forth xs b m in
    subst (λ u. Repeated L a u c) (sym (map-append zeroed xs ys)) (more a b c (map zeroed xs) (map zeroed ys) (subst (λ y. L a (map zeroed xs) y) (sym x.1) x.2) (repeated_forth L p b c ys r))

repeated_back : {A : Type 0} (L : A → Phrase Token A) → ((a : A) → Like Same (L a) (L a)) → (a c : A) (us ts : List Token) → map zeroed ts ≡ us → Repeated L a us c → Repeated L a ts c
repeated_back L p _ _ _ ts e (done a) = subst (λ u. Repeated L a u a) (sym (nil_back ts e)) (done a)
repeated_back L p _ _ _ ts e (more a b c xs ys m r) =
    let z = cut_back ts xs ys e in
    let x = (p a).back z.0 b (subst (λ u. L a u b) (sym z.3) m) in
    subst (λ u. Repeated L a u c) (sym z.2) (more a b c z.0 z.1 (subst (λ y. L a z.0 y) x.1 x.2) (repeated_back L p b c ys z.1 z.4 r))

many : {A : Type 0} (L : A → Phrase Token A) → ((a : A) → Like Same (L a) (L a)) → (a : A) → Like Same (Repeated L a) (Repeated L a)
many L p a = record {
  forth = λ ts c l. (c, refl, repeated_forth L p a c ts l);
  back = λ ts c m. (c, refl, repeated_back L p a c (map zeroed ts) ts refl m);
}

-- ---- places

name : Like Same place.name place.name
unfolding same_kind
name = a_word k.Name refl

path : Like Same place.path place.path
unfolding same_kind
path = a_word k.Path refl

next : {A B : Type 0} {R : A → B → Type 0} {L : Phrase Token A} {M : Phrase Token B} → Like R L M → Like R (place.next L) (place.next M)
unfolding same_kind
next r = after_same (a_word k.Comma refl) (λ _. r)

attribute : Like Same place.attribute place.attribute
attribute = after_same name (λ a. after_same (next path) (λ q. ends _ _ refl))

integer : (least most : ℕ) → integer_within least most (48 ∷ []) ≡ Some (pos 0) → Like Any (place.integer order_alone least most) (place.integer ranges least most)
integer least most e = a_number (pos 0) (integer_within least most) e

natural : (most : ℕ) → natural_within most (48 ∷ []) ≡ Some 0 → Like Any (place.natural order_alone most) (place.natural ranges most)
natural most e = a_number 0 (natural_within most) e

size : Like Any (place.size order_alone) (place.size ranges)
size = either (after_same name (λ a. ends _ _ tt)) (after_any (natural (2 ^ 32 - 1) refl) (λ n m. ends _ _ tt))

operand : Like Any (place.operand order_alone) (place.operand ranges)
unfolding same_kind
operand = either
    (after_same name (λ a. after_same (a_word k.Attached refl) (λ q. ends _ _ tt)))
    (after_any (integer (2 ^ 127) (2 ^ 127 - 1) refl) (λ n m. ends _ _ tt))

control : Like Any (place.control order_alone) (place.control ranges)
control = after_any (integer (2 ^ 63) (2 ^ 63 - 1) refl) (λ _ _. after_any (next (natural (2 ^ 64 - 1) refl)) (λ _ _. after_any (next (natural (2 ^ 64 - 1) refl)) (λ _ _. after_any (next (natural (2 ^ 64 - 1) refl)) (λ _ _. ends _ _ tt))))

descends : Like Same place.descends place.descends
unfolding same_kind
descends = either (after_same (a_word k.Minus refl) (λ _. ends _ _ refl)) (after_same (a_word k.Plus refl) (λ _. ends _ _ refl))

key : Like Same place.key place.key
key = after_same descends (λ down. after_same path (λ q. ends _ _ refl))

another_key : (keys : List OrderPath) → Like Same (place.another_key keys) (place.another_key keys)
another_key keys = after_same (next key) (λ last. ends _ _ refl)

-- ---- the arguments of each operator

single : (a : SingleOperator) → Like Any (g.single order_alone a) (g.single ranges a)
single s.Load = after_same name (λ a. ends _ _ tt)
single s.Cross = after_same attribute (λ v. after_same (next attribute) (λ w. ends _ _ tt))
single s.Zip = after_same name (λ a. after_same (next name) (λ b. ends _ _ tt))
single s.Project = after_same attribute (λ v. after_same (next path) (λ r. ends _ _ tt))
single s.Upsert = after_same attribute (λ v. after_same (next attribute) (λ w. ends _ _ tt))
single s.Gather = after_same name (λ a. after_same (next attribute) (λ w. ends _ _ tt))
single s.Scatter = after_same name (λ a. after_any (next size) (λ _ _. after_same (next attribute) (λ w. ends _ _ tt)))
single s.Materialize = after_same name (λ a. ends _ _ tt)
single s.Break = after_same name (λ a. ends _ _ tt)
single s.Order = after_same attribute (λ v. after_same (next path) (λ out. after_same (many place.another_key another_key []) (λ ks. ends _ _ tt)))
single s.BitShift = after_any operand (λ _ _. after_any (next (integer 127 127 refl)) (λ _ _. after_same (next path) (λ out. ends _ _ tt)))

rank : Like Any g.rank g.rank
rank = after_same attribute (λ v. after_same (next attribute) (λ w. after_same (next path) (λ out. ends _ _ tt)))

fold : Like Any g.fold g.fold
fold = after_same attribute (λ v. after_same (next path) (λ run. after_same (next path) (λ out. ends _ _ tt)))

pair : Like Any (g.pair order_alone) (g.pair ranges)
pair = after_any operand (λ _ _. after_any (next operand) (λ _ _. after_same (next path) (λ out. ends _ _ tt)))

arguments : (a : Operator) → Like Any (g.arguments order_alone a) (g.arguments ranges a)
arguments o.Range = after_any size (λ _ _. after_same (next path) (λ out. after_any (next control) (λ _ _. ends _ _ tt)))
arguments (o.Single a) = after_any (single a) (λ _ _. ends _ _ tt)
arguments (o.Rank a) = after_any rank (λ _ _. ends _ _ tt)
arguments (o.Fold a) = after_any fold (λ _ _. ends _ _ tt)
arguments (o.Pair a) = after_any pair (λ _ _. ends _ _ tt)

-- ---- lines

line : Like Any (g.line order_alone) (g.line ranges)
unfolding same_kind
line = either
    (after_same a_persist (λ _. after_same (a_word k.Open refl) (λ _. after_same name (λ shown. after_same (next name) (λ a. after_same (a_word k.Close refl) (λ _. ends _ _ tt))))))
    (after_same name (λ target. after_same (a_word k.Equal refl) (λ _. after_same an_operator (λ a. after_same (a_word k.Open refl) (λ _. after_any (arguments a) (λ _ _. after_same (a_word k.Close refl) (λ _. ends _ _ tt)))))))

pub zeros_spell : (ts : List Token) → SpellsLine order_alone ts → SpellsLine ranges (map zeroed ts)
zeros_spell ts x = let y = line.forth ts x.0 x.1 in (y.0, y.2)

pub zeros_spelled : (ts : List Token) → SpellsLine ranges (map zeroed ts) → SpellsLine order_alone ts
zeros_spelled ts x = let y = line.back ts x.0 x.1 in (y.0, y.2)
