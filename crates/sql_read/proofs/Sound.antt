-- No text of the grammar has a token that is refused for its own sake.
use Rattle.std.proofs.Common.{◌≡◌, Bool, true, false, ◌&&◌, List, ◌++◌, refl, sym, ◌∙◌}
use Rattle.std.specs.Prelude.{is_none}
use Rattle.std.specs.List.{list_all}
use Rattle.std.proofs.lemmas.List.Folds.{list_all-append}
use Rattle.phrases.specs.Promise.{Begins}
use Rattle.phrases.proofs.Inside.{MadeOf, made_token, made_nothing, made_both, made_either, made_repeated}
use Rattle.sql_read.specs.declared.kind.Kind.{Kind}
use Rattle.sql_read.specs.declared.kind.Kind.TheVariants as k
use Rattle.sql_read.specs.declared.token_list.Token.{Token}
use Rattle.sql_read.specs.declared.schema.ColumnType.{ColumnType}
use Rattle.sql_read.specs.declared.schema.Draft.{Draft}
use Rattle.sql_read.specs.declared.schema.Parts.{Parts}
use Rattle.sql_read.specs.Lexis.{Bytes}
use Rattle.sql_read.specs.Schema as g
use Rattle.sql_read.specs.Schema.{is, word}
use Rattle.sql_read.specs.SchemaText.{own_kind, is_sound}
use Rattle.sql_read.proofs.GoodSchema.{of_kind}

abbrev sound_kind : Kind → Bool
sound_kind x = is_none (own_kind x)

pub made_word : (kind : Kind) → is_none (own_kind kind) ≡ true → MadeOf is_sound (word kind)
made_word kind e = made_token is_sound (is kind) (λ t h. of_kind sound_kind kind t h ∙ e)

integers_sound : (x : Kind) → g.names_integers x ≡ true → sound_kind x ≡ true
integers_sound k.Integer h = refl
integers_sound k.Int h = refl
integers_sound k.Bigint h = refl
integers_sound x h = absurd (cc)

made_width : (t : Token) → MadeOf is_sound (g.width t)
made_width t = made_both is_sound _ _ (made_word k.OpenParen refl) (λ _. made_both is_sound _ _ (made_word k.Digits refl) (λ n. made_both is_sound _ _ (made_word k.CloseParen refl) (λ _. made_nothing is_sound _)))

made_scale : (p : ColumnType) → MadeOf is_sound (g.scale p)
made_scale p = made_either is_sound _ _ (made_both is_sound _ _ (made_word k.Comma refl) (λ _. made_both is_sound _ _ (made_word k.Digits refl) (λ n. made_nothing is_sound _))) (made_nothing is_sound _)

made_precision : (t : Token) → MadeOf is_sound (g.precision t)
made_precision t = made_both is_sound _ _ (made_word k.OpenParen refl) (λ _. made_both is_sound _ _ (made_word k.Digits refl) (λ n. made_both is_sound _ _ (made_scale _) (λ p. made_both is_sound _ _ (made_word k.CloseParen refl) (λ _. made_nothing is_sound _))))

made_column_type : MadeOf is_sound g.column_type
made_column_type = made_either is_sound _ _
    (made_both is_sound _ _ (made_token is_sound g.is_integer_type (λ t h. integers_sound t.kind h)) (λ t. made_nothing is_sound _))
    (made_either is_sound _ _ (made_both is_sound _ _ (made_word k.Date refl) (λ t. made_nothing is_sound _))
    (made_either is_sound _ _ (made_both is_sound _ _ (made_word k.Decimal refl) made_precision)
    (made_either is_sound _ _ (made_both is_sound _ _ (made_word k.Varchar refl) made_width)
    (made_both is_sound _ _ (made_word k.Char refl) (λ t. made_either is_sound _ _ (made_width t) (made_nothing is_sound _))))))

made_constraint : (d : Draft) → MadeOf is_sound (g.constraint d)
made_constraint d = made_either is_sound _ _
    (made_both is_sound _ _ (made_word k.Not refl) (λ _. made_both is_sound _ _ (made_word k.Null refl) (λ _. made_nothing is_sound _)))
    (made_both is_sound _ _ (made_word k.Primary refl) (λ t. made_both is_sound _ _ (made_word k.Key refl) (λ _. made_nothing is_sound _)))

made_part : (text : Bytes) (b : Parts) → MadeOf is_sound (g.part text b)
made_part text b = made_either is_sound _ _
    (made_both is_sound _ _ (made_word k.Name refl) (λ n. made_both is_sound _ _ made_column_type (λ t. made_both is_sound _ _ (made_repeated is_sound g.constraint made_constraint (g.begun text n t b.keys)) (λ d. made_nothing is_sound _))))
    (made_both is_sound _ _ (made_word k.Primary refl) (λ t. made_both is_sound _ _ (made_word k.Key refl) (λ _. made_both is_sound _ _ (made_word k.OpenParen refl) (λ _. made_both is_sound _ _ (made_word k.Name refl) (λ n. made_both is_sound _ _ (made_word k.CloseParen refl) (λ _. made_nothing is_sound _))))))

made_create : (text : Bytes) → MadeOf is_sound (g.create text)
made_create text = made_both is_sound _ _ (made_word k.Create refl) (λ _. made_both is_sound _ _ (made_word k.Table refl) (λ _. made_both is_sound _ _ (made_word k.Name refl) (λ n. made_both is_sound _ _ (made_word k.OpenParen refl)
    (λ _. made_both is_sound _ _ (made_part text g.no_parts) (λ b. made_both is_sound _ _
    (made_repeated is_sound _ (λ c. made_both is_sound _ _ (made_word k.Comma refl) (λ _. made_part text c)) b)
    (λ c. made_both is_sound _ _ (made_word k.CloseParen refl) (λ _. made_nothing is_sound _)))))))

made_schema : (text : Bytes) → MadeOf is_sound (g.schema text)
made_schema text = made_either is_sound _ _ (made_nothing is_sound _)
    (made_both is_sound _ _ (made_create text) (λ t. made_both is_sound _ _
    (made_repeated is_sound (g.another text) (λ ts. made_both is_sound _ _ (made_word k.Semicolon refl) (λ _. made_both is_sound _ _ (made_create text) (λ u. made_nothing is_sound _))) _)
    (λ ts. made_either is_sound _ _ (made_both is_sound _ _ (made_word k.Semicolon refl) (λ _. made_nothing is_sound _)) (made_nothing is_sound _))))

and_left : (a b : Bool) → (a && b) ≡ true → a ≡ true
and_left true b h = refl
and_left false b h = absurd (cc)

pub sound_before : (text : Bytes) (before : List Token) → Begins (g.schema text) before → list_all is_sound before ≡ true
sound_before text before b = and_left (list_all is_sound before) (list_all is_sound b.more) (sym (list_all-append is_sound before b.more) ∙ made_schema text (before ++ b.more) b.value b.reads)
