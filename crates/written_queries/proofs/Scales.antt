-- In the definitions of a schema that is read what is no decimal has no digit after the point, and a decimal has at most its digits there.
use Rattle.std.proofs.Common.{◌≡◌, ℕ, List, [], ◌∷◌, refl, subst, arith, ⊎_elim}
use Rattle.std.specs.List.{All}
use Rattle.std.proofs.lemmas.List.Elements.{All-nil, All-cons, All-head, All-tail, All-push}
use Rattle.phrases.specs.Phrases.{Phrase, Both, Repeated, done, more}
use Rattle.sql_read.specs.declared.kind.Kind.TheVariants as k
use Rattle.sql_read.specs.declared.token_list.Token.{Token}
use Rattle.sql_read.specs.declared.definition.ColumnDef.{ColumnDef}
use Rattle.sql_read.specs.declared.definition.ColumnKind.{ColumnKind}
use Rattle.sql_read.specs.declared.definition.ColumnKind.TheVariants.{Integer, Date, Text, Decimal}
use Rattle.sql_read.specs.declared.definition.TableDef.{TableDef}
use Rattle.sql_read.specs.declared.schema.ColumnType.{ColumnType}
use Rattle.sql_read.specs.declared.schema.Draft.{Draft}
use Rattle.sql_read.specs.declared.schema.Parts.{Parts}
use Rattle.sql_read.specs.Lexis.{Bytes}
use Rattle.sql_read.specs.Schema as g
use Rattle.sql_read.specs.Schema.{word}
use Rattle.sql_read.specs.SchemaText.{schema_tokens}
use Rattle.sql_read.specs.Tokens.{Tokens}
use Rattle.sql_read.proofs.SchemaLaws.{schema_of-sound}
use Rattle.sql_types.specs.Catalog.{findings}
use Rattle.sql_types.specs.Widths.{IsSizedAs, IsSized}
use Rattle.written_queries.specs.Scales.{IsScaledAs, HasScales, ScalesLaw}

-- what is no decimal has no digit after the point
abbrev IsPlainAs : ColumnKind → ℕ → Type 0
IsPlainAs Decimal scale = Unit {0}
IsPlainAs kind scale = scale ≡ 0

abbrev IsPlain : ColumnDef → Type 0
IsPlain c = IsPlainAs c.kind c.scale

abbrev IsPlainType : ColumnType → Type 0
IsPlainType t = IsPlainAs t.kind t.scale

abbrev ArePlain : TableDef → Type 0
ArePlain t = All IsPlain t.columns

-- ---- the types of columns

width_plain : (n : Token) (xs : Tokens) (t : ColumnType) → g.width n xs t → IsPlainType t
width_plain n xs t h = subst IsPlainType h.reads_right.reads_right.reads_right.1 refl

scale_plain : (n m : Token) (xs : Tokens) (t : ColumnType) → g.scale (g.sized Decimal n m) xs t → IsPlainType t
scale_plain n m xs t h = ⊎_elim (λ l. subst IsPlainType l.reads_right.reads_right.1 tt) (λ r. subst IsPlainType r.1 tt) h

precision_plain : (n : Token) (xs : Tokens) (t : ColumnType) → g.precision n xs t → IsPlainType t
precision_plain n xs t h =
    let digits = h.reads_right in
    let scaled = digits.reads_right in
    subst IsPlainType scaled.reads_right.reads_right.1 (scale_plain n digits.between scaled.left scaled.between scaled.reads_left)

type_plain : (xs : Tokens) (t : ColumnType) → g.column_type xs t → IsPlainType t
type_plain xs t h = ⊎_elim
    (λ a. subst IsPlainType a.reads_right.1 refl)
    (λ rest. ⊎_elim
    (λ b. subst IsPlainType b.reads_right.1 refl)
    (λ rest. ⊎_elim
    (λ c. precision_plain c.between c.right t c.reads_right)
    (λ rest. ⊎_elim
    (λ d. width_plain d.between d.right t d.reads_right)
    (λ e. ⊎_elim (λ l. width_plain e.between e.right t l) (λ r. subst IsPlainType r.1 refl) e.reads_right)
    rest) rest) rest) h

-- ---- schemas

-- what the braces of a rule keep
repeated : {A : Type 0} (M : A → Phrase Token A) (P : A → Type 0) → ((a : A) (xs : Tokens) (b : A) → M a xs b → P a → P b) → (a : A) (xs : Tokens) (b : A) → Repeated M a xs b → P a → P b
repeated M P step a xs b (done _) p = p
repeated M P step a zs d (more _ b c xs ys first others) p = repeated M P step b ys d others (step a xs b first p)

abbrev Drafted : Draft → Type 0
Drafted d = IsPlain d.column

constraint_plain : (a : Draft) (xs : Tokens) (b : Draft) → g.constraint a xs b → Drafted a → Drafted b
constraint_plain a xs b h p = ⊎_elim (λ l. subst Drafted l.reads_right.reads_right.1 p) (λ r. subst Drafted r.reads_right.reads_right.1 p) h

abbrev Parted : Parts → Type 0
Parted b = All IsPlain b.columns

column_plain : (text : Bytes) (a : Parts) (xs : Tokens) (b : Parts) → g.column text a xs b → Parted a → Parted b
column_plain text a xs b h p =
    let typed = h.reads_right in
    let draft = typed.reads_right in
    let plain = repeated g.constraint Drafted constraint_plain _ draft.left draft.between draft.reads_left (type_plain typed.left typed.between typed.reads_left) in
    subst Parted draft.reads_right.1 (All-push IsPlain a.columns draft.between.column p plain)

key_plain : (text : Bytes) (a : Parts) (xs : Tokens) (b : Parts) → g.key text a xs b → Parted a → Parted b
key_plain text a xs b h p = subst Parted h.reads_right.reads_right.reads_right.reads_right.reads_right.1 p

part_plain : (text : Bytes) (a : Parts) (xs : Tokens) (b : Parts) → g.part text a xs b → Parted a → Parted b
part_plain text a xs b h p = ⊎_elim (λ l. column_plain text a xs b l p) (λ r. key_plain text a xs b r p) h

create_plain : (text : Bytes) (xs : Tokens) (t : TableDef) → g.create text xs t → ArePlain t
create_plain text xs t h =
    let first = h.reads_right.reads_right.reads_right.reads_right in
    let others = first.reads_right in
    let parts = part_plain text g.no_parts first.left first.between first.reads_left (All-nil IsPlain) in
    let all = repeated (λ q. Both (word k.Comma) (λ _. g.part text q)) Parted (λ a ys b next. part_plain text a next.right b next.reads_right) first.between others.left others.between others.reads_left parts in
    subst ArePlain others.reads_right.reads_right.1 all

another_plain : (text : Bytes) (ts : List TableDef) (xs : Tokens) (us : List TableDef) → g.another text ts xs us → All ArePlain ts → All ArePlain us
another_plain text ts xs us h p =
    let made = h.reads_right in
    subst (All ArePlain) made.reads_right.1 (All-push ArePlain ts made.between p (create_plain text made.left made.between made.reads_left))

schema_plain : (text : Bytes) (xs : Tokens) (ts : List TableDef) → g.schema text xs ts → All ArePlain ts
schema_plain text xs ts h = ⊎_elim
    (λ l. subst (All ArePlain) l.1 (All-nil ArePlain))
    (λ r.
    let others = r.reads_right in
    let first = All-cons ArePlain r.between [] (create_plain text r.left r.between r.reads_left) (All-nil ArePlain) in
    let all = repeated (g.another text) (All ArePlain) (another_plain text) (r.between ∷ []) others.left others.between others.reads_left first in
    ⊎_elim (λ l. subst (All ArePlain) l.reads_right.1 all) (λ e. subst (All ArePlain) e.1 all) others.reads_right) h

-- ---- catalogs

within : (kind : ColumnKind) (width scale : ℕ) → IsPlainAs kind scale → IsSizedAs kind width scale → IsScaledAs kind scale
within Integer width scale plain sized = plain
within Date width scale plain sized = plain
within Text width scale plain sized = plain
within Decimal width scale plain sized = omega (arith, sized.1, sized.2)

abbrev Scaled : ColumnDef → Type 0
Scaled c = IsScaledAs c.kind c.scale

columns_within : (cs : List ColumnDef) → All IsPlain cs → All IsSized cs → All Scaled cs
columns_within [] plain sized = All-nil Scaled
columns_within (c ∷ cs) plain sized =
    All-cons Scaled c cs (within c.kind c.width c.scale (All-head IsPlain c cs plain) (All-head IsSized c cs sized)) (columns_within cs (All-tail IsPlain c cs plain) (All-tail IsSized c cs sized))

tables_within : (ts : List TableDef) → All ArePlain ts → All (λ t. All IsSized t.columns) ts → HasScales ts
tables_within [] plain sized = All-nil (λ t. All Scaled t.columns)
tables_within (t ∷ ts) plain sized =
    All-cons (λ t. All Scaled t.columns) t ts
    (columns_within t.columns (All-head ArePlain t ts plain) (All-head (λ t. All IsSized t.columns) t ts sized))
    (tables_within ts (All-tail ArePlain t ts plain) (All-tail (λ t. All IsSized t.columns) t ts sized))

pub scales_law : ((defs : List TableDef) → findings defs ≡ [] → All (λ t. All IsSized t.columns) defs) → ScalesLaw
scales_law sized text defs read clean = tables_within defs (schema_plain text (schema_tokens text) defs (schema_of-sound text defs read).1) (sized defs clean)
