-- The definitions of a schema have the form of definitions: words as names, and a column or a key in each table.
use Rattle.std.proofs.Common.{◌≡◌, ◌∙◌, ℕ, ◌+◌, ◌≤◌, true, List, [], ◌∷◌, ◌++◌, length, refl, ap, subst, arith, length-append, ⊎_elim}
use Rattle.std.specs.Prelude.{Result, Ok, Err, IfOk}
use Rattle.std.specs.List.{All}
use Rattle.std.proofs.lemmas.List.Elements.{All-push}
use Rattle.phrases.specs.Phrases.{Phrase, Both, Repeated, done, more}
use Rattle.sql_read.specs.declared.kind.Kind.TheVariants as k
use Rattle.sql_read.specs.declared.token_list.Token.{Token}
use Rattle.sql_read.specs.declared.definition.TableDef.{TableDef}
use Rattle.sql_read.specs.declared.schema.Draft.{Draft}
use Rattle.sql_read.specs.declared.schema.Parts.{Parts}
use Rattle.sql_read.specs.Forms.{is_name, IsNamed, IsFormed}
use Rattle.sql_read.specs.Lexis.{Bytes}
use Rattle.sql_read.specs.Schema as g
use Rattle.sql_read.specs.Schema.{word}
use Rattle.sql_read.specs.SchemaText.{IsSchema}
use Rattle.sql_read.specs.Tokens.{Tokens}
use Rattle.sql_read.proofs.GoodSchema.{is_true}
use Rattle.sql_read.proofs.NameLaws.{AreWords, words_apart, tokens_are_words}

-- what the braces of a rule keep
repeated : {A : Type 0} (text : Bytes) (M : A → Phrase Token A) (P : A → Type 0) → ((a : A) (xs : Tokens) (b : A) → M a xs b → AreWords text xs → P a → P b)
    → (a : A) (xs : Tokens) (b : A) → Repeated M a xs b → AreWords text xs → P a → P b
repeated text M P step a xs b (done _) words p = p
repeated text M P step a zs d (more _ b c xs ys first others) words p =
    let (l, r) = words_apart text xs ys words in
    repeated text M P step b ys d others r (step a xs b first l p)

-- the words of the two halves of a phrase
abbrev halves : (text : Bytes) (xs ys zs : Tokens) → zs ≡ xs ++ ys → AreWords text zs → AreWords text xs × AreWords text ys
halves text xs ys zs cut words = words_apart text xs ys (subst (AreWords text) cut words)

named_at : (text : Bytes) (xs : Tokens) (n : Token) → word k.Name xs n → AreWords text xs → is_name (g.name_at text n) ≡ true
named_at text xs n h words = (subst (AreWords text) h.0 words).0 (is_true k.Name n h.1)

abbrev IsCalled : List ℕ → Draft → Type 0
IsCalled name d = d.column.name ≡ name

constraint_keeps : (name : List ℕ) (a : Draft) (xs : Tokens) (b : Draft) → g.constraint a xs b → IsCalled name a → IsCalled name b
constraint_keeps name a xs b h p = ⊎_elim
    (λ l. subst (IsCalled name) l.reads_right.reads_right.1 p)
    (λ r. subst (IsCalled name) r.reads_right.reads_right.1 p) h

-- the columns so far are named, and there is one, or a key
record AreParts (b : Parts) : Type 0 where
  named : All IsNamed b.columns
  some : 1 ≤ length b.columns + length b.keys

column_named : (text : Bytes) (a : Parts) (xs : Tokens) (b : Parts) → g.column text a xs b → AreWords text xs → All IsNamed a.columns → AreParts b
column_named text a xs b h words p =
    let name = g.name_at text h.between in
    let first = halves text h.left h.right xs h.cut words in
    let called = named_at text h.left h.between h.reads_left first.0 in
    let typed = h.reads_right in
    let second = halves text typed.left typed.right h.right typed.cut first.1 in
    let draft = typed.reads_right in
    let third = halves text draft.left draft.right typed.right draft.cut second.1 in
    let d = draft.between in
    let same : d.column.name ≡ name = repeated text g.constraint (IsCalled name) (λ x ts y s w q. constraint_keeps name x ts y s q) _ draft.left d draft.reads_left third.0 refl in
    subst AreParts draft.reads_right.1 (record {
      named = All-push IsNamed a.columns d.column p (ap is_name same ∙ called);
      some = omega (arith, length-append a.columns (d.column ∷ []));
    })

key_named : (text : Bytes) (a : Parts) (xs : Tokens) (b : Parts) → g.key text a xs b → All IsNamed a.columns → AreParts b
key_named text a xs b h p =
    let p_at = h.between in
    let inner = h.reads_right.reads_right.reads_right in
    let n = inner.between in
    subst AreParts inner.reads_right.reads_right.1 (record {
      named = p;
      some = omega (arith, length-append a.keys (record { column = g.name_at text n; at = p_at.at; name_at = n.at } ∷ []));
    })

part_named : (text : Bytes) (a : Parts) (xs : Tokens) (b : Parts) → g.part text a xs b → AreWords text xs → All IsNamed a.columns → AreParts b
part_named text a xs b h words p = ⊎_elim (λ l. column_named text a xs b l words p) (λ r. key_named text a xs b r p) h

next_named : (text : Bytes) (a : Parts) (xs : Tokens) (b : Parts) → Both (word k.Comma) (λ _. g.part text a) xs b → AreWords text xs → AreParts a → AreParts b
next_named text a xs b h words p = part_named text a h.right b h.reads_right (halves text h.left h.right xs h.cut words).1 p.named

create_formed : (text : Bytes) (xs : Tokens) (t : TableDef) → g.create text xs t → AreWords text xs → IsFormed t
create_formed text xs t h words =
    let a = halves text h.left h.right xs h.cut words in
    let table = h.reads_right in
    let b = halves text table.left table.right h.right table.cut a.1 in
    let named = table.reads_right in
    let c = halves text named.left named.right table.right named.cut b.1 in
    let n = named.between in
    let opened = named.reads_right in
    let d = halves text opened.left opened.right named.right opened.cut c.1 in
    let first = opened.reads_right in
    let e = halves text first.left first.right opened.right first.cut d.1 in
    let others = first.reads_right in
    let f = halves text others.left others.right first.right others.cut e.1 in
    let parts = part_named text g.no_parts first.left first.between first.reads_left e.0 (λ i x l. absurd (omega (arith, l))) in
    let all = repeated text (λ q. Both (word k.Comma) (λ _. g.part text q)) AreParts (next_named text) first.between others.left others.between others.reads_left f.0 parts in
    let made : g.table text n others.between ≡ t = others.reads_right.reads_right.1 in
    subst IsFormed made (record { called = named_at text named.left n named.reads_left c.0; named = all.named; some_part = all.some })

another_formed : (text : Bytes) (ts : List TableDef) (xs : Tokens) (us : List TableDef) → g.another text ts xs us → AreWords text xs → All IsFormed ts → All IsFormed us
another_formed text ts xs us h words p =
    let a = halves text h.left h.right xs h.cut words in
    let made = h.reads_right in
    let b = halves text made.left made.right h.right made.cut a.1 in
    subst (All IsFormed) made.reads_right.1 (All-push IsFormed ts made.between p (create_formed text made.left made.between made.reads_left b.0))

none_formed : All IsFormed []
none_formed i x l = absurd (omega (arith, l))

one_formed : (t : TableDef) → IsFormed t → All IsFormed (t ∷ [])
one_formed t h = All-push IsFormed [] t none_formed h

tables_formed : (text : Bytes) (xs : Tokens) (ts : List TableDef) → g.schema text xs ts → AreWords text xs → All IsFormed ts
tables_formed text xs ts h words = ⊎_elim
    (λ l. subst (All IsFormed) l.1 none_formed)
    (λ r.
    let a = halves text r.left r.right xs r.cut words in
    let others = r.reads_right in
    let b = halves text others.left others.right r.right others.cut a.1 in
    let first = create_formed text r.left r.between r.reads_left a.0 in
    let all = repeated text (g.another text) (All IsFormed) (another_formed text) (r.between ∷ []) others.left others.between others.reads_left b.0 (one_formed r.between first) in
    ⊎_elim (λ l. subst (All IsFormed) l.reads_right.1 all) (λ e. subst (All IsFormed) e.1 all) others.reads_right) h

-- every schema's definitions are formed
pub schema_formed : (text : Bytes) (defs : List TableDef) → IsSchema text defs → All IsFormed defs
schema_formed text defs h = tables_formed text _ defs h.1 (tokens_are_words text 16384)

pub formed_by : {V E : Type 0} (seen : V → List TableDef) (text : Bytes) (r : Result V E) → IfOk r (λ v. IsSchema text (seen v)) → IfOk r (λ v. All IsFormed (seen v))
formed_by seen text (Ok v) h = schema_formed text (seen v) h
formed_by seen text (Err e) h = tt
