-- What `schema_of` answers, by the grammar.
use Rattle.std.proofs.Common.{◌≡◌, ◌≢◌, ℕ, zero, suc, ◌-◌, ◌≤◌, ◌<◌, Bool, true, false, cond, List, [], ◌∷◌, ◌++◌, length, take, drop, refl, ap, sym, ◌∙◌, subst, ◌⊎◌, ⊎_elim, arith, length-append}
use Rattle.std.specs.Prelude.{Result, Ok, Err, IfOk, IfErr, MatchResult, unwrap_or}
use Rattle.std.specs.Str.{IsUtf8, IsValidUpTo, is_utf8}
use Rattle.std.specs.Str.Lossy.{utf8_valid_len, valid_len_up_to}
use Rattle.std.proofs.lemmas.Str.{IsUtf8-from_is_utf8, is_utf8-from_IsUtf8}
use Rattle.std.proofs.lemmas.List.{take_all}
use Rattle.phrases.specs.declared.refusal.ReadError.{ReadError}
use Rattle.phrases.specs.declared.refusal.ReadError.TheVariants as read
use Rattle.phrases.specs.Parsers.{ended}
use Rattle.phrases.proofs.Good.{bool_cases}
use Rattle.phrases.proofs.Whole.{read_sound, read_complete, unexpected}
use Rattle.sql_read.specs.declared.kind.Kind.{Kind}
use Rattle.sql_read.specs.declared.kind.Kind.TheVariants as k
use Rattle.sql_read.specs.declared.fault.Fault.{Fault}
use Rattle.sql_read.specs.declared.fault.Fault.TheVariants as fault
use Rattle.sql_read.specs.declared.refusal.SqlKind.{SqlKind}
use Rattle.sql_read.specs.declared.refusal.SqlKind.TheVariants.{NotText, Unexpected}
use Rattle.sql_read.specs.declared.refusal.SqlRefusal.{SqlRefusal}
use Rattle.sql_read.specs.declared.refusal.SqlRefusal.TheVariants.{NoMemory, Bad}
use Rattle.sql_read.specs.declared.definition.TableDef.{TableDef}
use Rattle.sql_read.specs.Lexis.{Bytes}
use Rattle.sql_read.specs.Tokens.{Tokens}
use Rattle.sql_read.specs.Schema.{schema}
use Rattle.sql_read.specs.SchemaParsers as parsers
use Rattle.sql_read.specs.SchemaText.{schema_tokens, IsSchema, own_kind, kind_at, place_of, IsFirstRefusal, IsRefusedAt, IsRefusal, refusal_at, answered, read_tokens, schema_of}
use Rattle.sql_read.proofs.Semicolons.{good_schema, some_schema, stop_schema}
use Rattle.sql_read.proofs.Sound.{sound_before}

-- ---- bytes that are no text

record Longest (bs : Bytes) (n m : ℕ) : Type 0 where
  within : m ≤ n
  front : IsUtf8 (take m bs)
  longest : (j : ℕ) → m < j → j ≤ n → is_utf8 (take j bs) ≡ false

longest_by : (bs : Bytes) (n : ℕ) (b : Bool) (m : ℕ) → is_utf8 (take (suc n) bs) ≡ b → Longest bs n m → Longest bs (suc n) (cond b (suc n) m)
longest_by bs n true m e l = record { within = omega arith; front = IsUtf8-from_is_utf8 (take (suc n) bs) e; longest = λ j lt le. absurd (omega arith) }
longest_by bs n false m e l = record {
  within = let w = l.within in omega arith;
  front = l.front;
  longest = λ j lt le. ⊎_elim (λ x. l.longest j lt x) (λ x. ap (λ i. is_utf8 (take i bs)) x ∙ e) (at_most j n le);
} where
  at_most : (j n : ℕ) → j ≤ suc n → (j ≤ n) ⊎ (j ≡ suc n)
  at_most j n le = grind arith

longest_up_to : (bs : Bytes) (n : ℕ) → Longest bs n (valid_len_up_to bs n)
longest_up_to bs zero = record { within = omega arith; front = ([], (refl, refl)); longest = λ j lt le. absurd (omega arith) }
longest_up_to bs (suc n) = longest_by bs n (is_utf8 (take (suc n) bs)) (valid_len_up_to bs n) refl (longest_up_to bs n)

not_utf8 : (bs : Bytes) → is_utf8 bs ≡ false → IsUtf8 bs → ⊥
not_utf8 bs e u = let t = is_utf8-from_IsUtf8 bs u in absurd (cc)

pub not_utf8-is_utf8 : (bs : Bytes) → (IsUtf8 bs → ⊥) → is_utf8 bs ≡ false
not_utf8-is_utf8 bs h = ⊎_elim (λ e. absurd (h (IsUtf8-from_is_utf8 bs e))) (λ e. e) (bool_cases (is_utf8 bs))

valid_up_to : (bs : Bytes) → is_utf8 bs ≡ false → IsValidUpTo bs (utf8_valid_len bs)
unfolding utf8_valid_len
valid_up_to bs e =
    let l = longest_up_to bs (length bs) in
    let n = valid_len_up_to bs (length bs) in
    let whole : n ≡ length bs → ⊥ = λ same. not_utf8 bs e (subst IsUtf8 (take_all (length bs) bs (omega arith)) (subst (λ i. IsUtf8 (take i bs)) same l.front)) in
    record {
      short = let w = l.within in grind arith;
      front = l.front;
      longest = λ m lt u. ⊎_elim
          (λ le. not_utf8 (take m bs) (l.longest m lt le) u)
          (λ gt. not_utf8 bs e (subst IsUtf8 (take_all m bs gt) u))
          (split m (length bs));
    }
  where
    split : (m n : ℕ) → (m ≤ n) ⊎ (n ≤ m)
    split m n = grind arith

-- ---- the tokens from the refused one on

drop_front : (xs ys : Tokens) → drop (length xs) (xs ++ ys) ≡ ys
drop_front [] ys = refl
drop_front (x ∷ xs) ys = drop_front xs ys

drop_before : (xs ys : Tokens) → drop (length (xs ++ ys) - length ys) (xs ++ ys) ≡ ys
drop_before xs ys = let e : length (xs ++ ys) - length ys ≡ length xs = omega (arith, length-append xs ys) in ap (λ n. drop n (xs ++ ys)) e ∙ drop_front xs ys

-- ---- the kind of a refusal

text_kind : (x : Kind) → unwrap_or (own_kind x) Unexpected ≡ NotText → ⊥
text_kind k.BadToken h = cc
text_kind k.TooWide h = cc
text_kind k.Past h = cc
text_kind x h = cc

of_text : (rest : Tokens) → kind_at rest Unexpected ≡ NotText → ⊥
of_text [] h = cc
of_text (t ∷ rest) h = text_kind t.kind h

refused_at : (text : Bytes) (at : ℕ) (kind : SqlKind) → (kind ≡ NotText → ⊥) → IsUtf8 text × IsFirstRefusal text at kind → IsRefusedAt text at kind
refused_at text at NotText ne h = absurd (ne refl)
refused_at text at kind ne h = h

-- ---- the answer

answered_ok : (text : Bytes) (ts : Tokens) (x : Result (List TableDef) (ReadError Fault)) (defs : List TableDef) → answered text ts x ≡ Ok defs → x ≡ Ok defs
answered_ok text ts (Ok xs) defs h = let e : xs ≡ defs = cc in ap (λ y. Ok y) e
answered_ok text ts (Err read.NoMemory) defs h = absurd (cc)
answered_ok text ts (Err (read.Refused f left)) defs h = absurd (cc)

first_refusal : (text : Bytes) (left : ℕ) (f : Fault) → IsUtf8 text → ended fault.Unexpected (parsers.schema text (schema_tokens text)) ≡ Err (read.Refused f left) → IsRefusal text (refusal_at text (drop (length (schema_tokens text) - left) (schema_tokens text)))
first_refusal text left f u h =
    let x = unexpected (schema text) stop_schema (parsers.schema text) (good_schema text) fault.Unexpected (some_schema text) (schema_tokens text) f left h in
    let same : drop (length (schema_tokens text) - left) (schema_tokens text) ≡ x.rest = ap (λ n. drop (length (schema_tokens text) - n) (schema_tokens text)) x.place ∙ ap (λ ts. drop (length ts - length x.rest) ts) x.cut ∙ drop_before x.before x.rest in
    subst (λ rest. IsRefusal text (refusal_at text rest)) (sym same)
    (refused_at text (place_of text x.rest) (kind_at x.rest Unexpected) (of_text x.rest)
    (u, record { before = x.before; rest = x.rest; cut = x.cut; sound = sound_before text x.before x.begins; begins = x.begins; ends = x.ends; place = refl; refused = refl }))

answered_err : (text : Bytes) (x : Result (List TableDef) (ReadError Fault)) (e : SqlRefusal) → IsUtf8 text → ended fault.Unexpected (parsers.schema text (schema_tokens text)) ≡ x → answered text (schema_tokens text) x ≡ Err e → IsRefusal text e
answered_err text (Ok xs) e u is h = absurd (cc)
answered_err text (Err read.NoMemory) e u is h = let same : NoMemory ≡ e = cc in subst (IsRefusal text) same tt
answered_err text (Err (read.Refused f left)) e u is h =
    let same : refusal_at text (drop (length (schema_tokens text) - left) (schema_tokens text)) ≡ e = cc in
    subst (IsRefusal text) same (first_refusal text left f u is)

pub schema_of-text : (text : Bytes) → is_utf8 text ≡ true → schema_of text ≡ read_tokens text (schema_tokens text)
unfolding schema_of
schema_of-text text e = rw e refl

pub schema_of-not_text : (text : Bytes) → is_utf8 text ≡ false → schema_of text ≡ Err (Bad (utf8_valid_len text) NotText)
unfolding schema_of
schema_of-not_text text e = rw e refl

-- a schema is answered by its definitions
pub schema_of-complete : (text : Bytes) (defs : List TableDef) → IsSchema text defs → schema_of text ≡ Ok defs
schema_of-complete text defs h =
    schema_of-text text (is_utf8-from_IsUtf8 text h.0)
    ∙ ap (answered text (schema_tokens text)) (read_complete (schema text) stop_schema (parsers.schema text) (good_schema text) fault.Unexpected (schema_tokens text) defs h.1)

-- what is answered is a schema
pub schema_of-sound : (text : Bytes) (defs : List TableDef) → schema_of text ≡ Ok defs → IsSchema text defs
schema_of-sound text defs h = ⊎_elim
    (λ e. (IsUtf8-from_is_utf8 text e, read_sound (schema text) stop_schema (parsers.schema text) (good_schema text) fault.Unexpected (schema_tokens text) defs (answered_ok text (schema_tokens text) (ended fault.Unexpected (parsers.schema text (schema_tokens text))) defs (sym (schema_of-text text e) ∙ h))))
    (λ e. let f = schema_of-not_text text e in absurd (cc))
    (bool_cases (is_utf8 text))

-- a refusal is the first
pub schema_of-refuses : (text : Bytes) (e : SqlRefusal) → schema_of text ≡ Err e → IsRefusal text e
schema_of-refuses text e h = ⊎_elim
    (λ u. answered_err text (ended fault.Unexpected (parsers.schema text (schema_tokens text))) e (IsUtf8-from_is_utf8 text u) refl (sym (schema_of-text text u) ∙ h))
    (λ u.
    let same : ◌≡◌ {A = Result (List TableDef) SqlRefusal} (Err (Bad (utf8_valid_len text) NotText)) (Err e) = sym (schema_of-not_text text u) ∙ h in
    let is : Bad (utf8_valid_len text) NotText ≡ e = cc in
    subst (IsRefusal text) is (valid_up_to text u))
    (bool_cases (is_utf8 text))

-- ---- what a function that gives this answer promises

other : (at : ℕ) (kind : SqlKind) → Bad at kind ≡ NoMemory → ⊥
other at kind h = cc

module _ {X : Type 0} (items : X → List TableDef) (text : Bytes) where
  abbrev pub Answers : Result X SqlRefusal → Type 0
  Answers r = MatchResult r (λ v. schema_of text ≡ Ok (items v)) (λ e. e ≢ NoMemory → schema_of text ≡ Err e)

  pub found_by : (r : Result X SqlRefusal) → Answers r → IfOk r (λ v. IsSchema text (items v))
  found_by (Ok v) h = schema_of-sound text (items v) h
  found_by (Err e) h = tt

  pub only_by : (r : Result X SqlRefusal) → Answers r → (defs : List TableDef) → IsSchema text defs → MatchResult r (λ v. items v ≡ defs) (λ e. e ≡ NoMemory)
  only_by (Ok v) h defs l = let c = schema_of-complete text defs l in cc
  only_by (Err NoMemory) h defs l = refl
  only_by (Err (Bad at kind)) h defs l = let c = schema_of-complete text defs l in let d = h (other at kind) in absurd (cc)

  pub refused_by : (r : Result X SqlRefusal) → Answers r → IfErr r (IsRefusal text)
  refused_by (Ok v) h = tt
  refused_by (Err NoMemory) h = tt
  refused_by (Err (Bad at kind)) h = schema_of-refuses text (Bad at kind) (h (other at kind))
