-- What `query_of` answers, by the grammar.
use Rattle.std.proofs.Common.{◌≡◌, ◌≢◌, ℕ, zero, suc, ◌+◌, ◌-◌, Bool, true, false, not, ◌&&◌, [], ◌∷◌, ◌++◌, length, drop, refl, ap, sym, ◌∙◌, subst, ⊎_elim, arith, length-append}
use Rattle.std.specs.Prelude.{Result, Ok, Err, IfOk, IfErr, MatchResult, unwrap_or}
use Rattle.std.specs.Option.{option_to_list}
use Rattle.std.specs.List.{list_all}
use Rattle.std.specs.Str.{IsUtf8, IsValidUpTo, is_utf8}
use Rattle.std.specs.Str.Lossy.{utf8_valid_len}
use Rattle.std.proofs.lemmas.Str.{IsUtf8-from_is_utf8, is_utf8-from_IsUtf8}
use Rattle.std.proofs.lemmas.Bool.{and_parts, and_from}
use Rattle.std.proofs.lemmas.List.Folds.{list_all-append}
use Rattle.phrases.specs.declared.refusal.ReadError.{ReadError}
use Rattle.phrases.specs.declared.refusal.ReadError.TheVariants as read
use Rattle.phrases.specs.Parsers.{ended, next}
use Rattle.phrases.proofs.Good.{bool_cases}
use Rattle.phrases.proofs.Easing.{Whole, Still, whole_rest, read_sound, read_complete, read_refuses, no_text, goes_on, still_refused}
use Rattle.sql_read.specs.declared.kind.Kind.{Kind}
use Rattle.sql_read.specs.declared.kind.Kind.TheVariants as k
use Rattle.sql_read.specs.declared.token_list.Token.{Token}
use Rattle.sql_read.specs.declared.refusal.SqlKind.{SqlKind}
use Rattle.sql_read.specs.declared.refusal.SqlKind.TheVariants as sql
use Rattle.sql_read.specs.declared.refusal.SqlRefusal.{SqlRefusal}
use Rattle.sql_read.specs.declared.refusal.SqlRefusal.TheVariants.{NoMemory, Bad}
use Rattle.sql_read.specs.Kinds.{same_kind}
use Rattle.sql_read.specs.Lexis.{Bytes, front}
use Rattle.sql_read.specs.Schema.{is}
use Rattle.sql_read.specs.Tokens.{Tokens, tokens, tokens_from, limited, token_of, unless_blank, past_kind}
use Rattle.sql_read.specs.SchemaText.{own_kind, kind_at, place_of}
use Rattle.sql_read.proofs.SchemaLaws.{schema_of-refuses, schema_of-not_text}
use Rattle.query_read.specs.declared.fault.Fault.{Fault}
use Rattle.query_read.specs.declared.fault.Fault.TheVariants.{Unexpected, TooDeep, NoDate, NoSpan, OutOfRange}
use Rattle.query_trees.specs.declared.query.Query.{Query}
use Rattle.query_read.specs.Asked.{Asked, all, order_alone}
use Rattle.query_read.specs.Marked.{marked_after, as_step, step_kind, ends_date}
use Rattle.query_read.specs.Clauses.{query}
use Rattle.query_read.specs.ClauseParsers as parsers
use Rattle.query_read.specs.QueryText.{query_tokens, IsQuery, kind_of, tokens_before, Why, IsFirstRefusal, IsRefusedAt, IsRefusal, refusal_at, answered, read_tokens, query_of}
use Rattle.query_read.proofs.TokenKinds.{gap}
use Rattle.query_read.proofs.FitsClauses.{every, some_query, fits_query}
use Rattle.query_read.proofs.LenientQueries.{less_dates, less_spans, less_ranges, more_levels}

-- ---- no token of a text is a gap

abbrev real : Token → Bool
real t = not (gap t)

real_unless : (x : Kind) (t : Token) → t.kind ≡ x → list_all real (option_to_list (unless_blank x t)) ≡ true
unfolding same_kind
real_unless k.Blank t e = refl
real_unless x t e = ap (λ y. not (same_kind y k.Blank) && true) e

real_from : (left at : ℕ) (z : Bytes) → list_all real (tokens_from left at z) ≡ true
real_from left at [] = refl
real_from (suc left) at (b ∷ z) = real_from left (at + 1) z
real_from zero at (b ∷ z) =
    let p = front (b ∷ z) in
    list_all-append real (option_to_list (token_of at p)) (tokens_from (p.len - 1) (at + 1) z)
    ∙ ap (λ c. c && list_all real (tokens_from (p.len - 1) (at + 1) z)) (real_unless p.kind (record { kind = p.kind; at = at; len = p.len; value = p.value; scale = p.scale }) refl)
    ∙ real_from (p.len - 1) (at + 1) z

real_past : (x : Kind) → not (same_kind (past_kind x) k.Blank) ≡ true
unfolding same_kind
real_past k.BadToken = refl
real_past k.TooWide = refl
real_past x = refl

real_limited : (n : ℕ) (ts : Tokens) → list_all real ts ≡ true → list_all real (limited n ts) ≡ true
real_limited n [] h = refl
real_limited zero (t ∷ ts) h = ap (λ c. c && true) (real_past t.kind)
real_limited (suc n) (t ∷ ts) h =
    let parts = and_parts (real t) (list_all real ts) h in
    and_from (real t) (list_all real (limited n ts)) parts.0 (real_limited n ts parts.1)

real_step_kind : (x : Kind) → not (same_kind x k.Blank) ≡ true → not (same_kind (step_kind x) k.Blank) ≡ true
unfolding same_kind
real_step_kind k.Plus h = refl
real_step_kind k.Minus h = refl
real_step_kind x h = h

real_step : (c : Bool) (t : Token) → real t ≡ true → real (as_step c t) ≡ true
real_step true t h = real_step_kind t.kind h
real_step false t h = h

real_marked : (before latest : Kind) (ts : Tokens) → list_all real ts ≡ true → list_all real (marked_after before latest ts) ≡ true
real_marked before latest [] h = refl
real_marked before latest (t ∷ ts) h =
    let parts = and_parts (real t) (list_all real ts) h in
    let c = ends_date before latest && next (is k.Interval) ts in
    and_from (real (as_step c t)) (list_all real (marked_after latest t.kind ts)) (real_step c t parts.0) (real_marked latest t.kind ts parts.1)

whole_tokens : (text : Bytes) → Whole gap (query_tokens text)
unfolding tokens
whole_tokens text = real_marked k.Blank k.Blank (limited 2048 (tokens_from 0 0 text)) (real_limited 2048 (tokens_from 0 0 text) (real_from 0 0 text))

-- ---- why a token is refused

other_date : Unexpected ≡ NoDate → ⊥
other_date h = cc

other_span : Unexpected ≡ NoSpan → ⊥
other_span h = cc

other_range : Unexpected ≡ OutOfRange → ⊥
other_range h = cc

other_deep : Unexpected ≡ TooDeep → ⊥
other_deep h = cc

abbrev StillAt : Asked → Bytes → ℕ → Tokens → Tokens → Fault → Type 0
StillAt m text n = Still gap Unexpected (parsers.query m text n)

still_levels : (more : ℕ) (text : Bytes) (before rest : Tokens) → StillAt order_alone text 64 before rest Unexpected → StillAt order_alone text (more + 64) before rest Unexpected
still_levels zero text before rest h = h
still_levels (suc more) text before rest h =
    let e : suc (more + 64) ≡ suc more + 64 = omega arith in
    subst (λ n. StillAt order_alone text n before rest Unexpected) e
    (still_refused gap Unexpected (parsers.query order_alone text (suc (more + 64))) (parsers.query order_alone text (more + 64)) TooDeep (more_levels false false false text (more + 64)) before rest Unexpected other_deep (still_levels more text before rest h))

still_alone : (text : Bytes) (before rest : Tokens) → StillAt all text 64 before rest Unexpected → StillAt order_alone text 64 before rest Unexpected
still_alone text before rest h =
    still_refused gap Unexpected (parsers.query order_alone text 64) (parsers.query (record { dates = false; spans = false; ranges = true }) text 64) OutOfRange (less_ranges false false true text 64) before rest Unexpected other_range
    (still_refused gap Unexpected (parsers.query (record { dates = false; spans = false; ranges = true }) text 64) (parsers.query (record { dates = false; spans = true; ranges = true }) text 64) NoSpan (less_spans false true true text 64) before rest Unexpected other_span
    (still_refused gap Unexpected (parsers.query (record { dates = false; spans = true; ranges = true }) text 64) (parsers.query all text 64) NoDate (less_dates true true true text 64) before rest Unexpected other_date h))

why : (text : Bytes) (fault : Fault) (before rest : Tokens) → Whole gap rest → StillAt all text 64 before rest fault → Why text fault before rest
why text Unexpected before rest w h = λ more.
    no_text gap Unexpected (query order_alone text (more + 64)) every (parsers.query order_alone text (more + 64)) (fits_query order_alone text (more + 64)) before rest Unexpected w (still_levels more text before rest (still_alone text before rest h))
why text TooDeep before rest w h = goes_on gap Unexpected (query all text 65) every (parsers.query all text 65) (fits_query all text 65) (parsers.query all text 64) TooDeep other_deep (more_levels true true true text 64) before rest h
why text NoDate before rest w h = goes_on gap Unexpected (query (record all { dates = false }) text 64) every (parsers.query (record all { dates = false }) text 64) (fits_query (record all { dates = false }) text 64) (parsers.query all text 64) NoDate other_date (less_dates true true true text 64) before rest h
why text NoSpan before rest w h = goes_on gap Unexpected (query (record all { spans = false }) text 64) every (parsers.query (record all { spans = false }) text 64) (fits_query (record all { spans = false }) text 64) (parsers.query all text 64) NoSpan other_span (less_spans true true true text 64) before rest h
why text OutOfRange before rest w h = goes_on gap Unexpected (query (record all { ranges = false }) text 64) every (parsers.query (record all { ranges = false }) text 64) (fits_query (record all { ranges = false }) text 64) (parsers.query all text 64) OutOfRange other_range (less_ranges true true true text 64) before rest h

-- ---- the kind of a refusal

text_kind : (x : Kind) (kind : SqlKind) → (kind ≡ sql.NotText → ⊥) → unwrap_or (own_kind x) kind ≡ sql.NotText → ⊥
text_kind k.BadToken kind ne h = cc
text_kind k.TooWide kind ne h = cc
text_kind k.Past kind ne h = cc
text_kind x kind ne h = ne h

of_text : (rest : Tokens) (kind : SqlKind) → (kind ≡ sql.NotText → ⊥) → kind_at rest kind ≡ sql.NotText → ⊥
of_text [] kind ne h = ne h
of_text (t ∷ rest) kind ne h = text_kind t.kind kind ne h

no_text_kind : (fault : Fault) → kind_of fault ≡ sql.NotText → ⊥
no_text_kind Unexpected h = cc
no_text_kind TooDeep h = cc
no_text_kind NoDate h = cc
no_text_kind NoSpan h = cc
no_text_kind OutOfRange h = cc

refused_at : (text : Bytes) (at : ℕ) (kind : SqlKind) → (kind ≡ sql.NotText → ⊥) → IsUtf8 text × IsFirstRefusal text at kind → IsRefusedAt text at kind
refused_at text at sql.NotText ne h = absurd (ne refl)
refused_at text at kind ne h = h

-- ---- the first refusal

drop_front : (xs ys : Tokens) → drop (length xs) (xs ++ ys) ≡ ys
drop_front [] ys = refl
drop_front (x ∷ xs) ys = drop_front xs ys

count_before : (ts before rest : Tokens) (left : ℕ) → ts ≡ before ++ rest → left ≡ length rest → length ts - left ≡ length before
count_before ts before rest left cut place = let e = ap length cut in omega (arith, e, place, length-append before rest)

first_refusal : (text : Bytes) (fault : Fault) (left : ℕ) → IsUtf8 text → ended Unexpected (parsers.query all text 64 (query_tokens text)) ≡ Err (read.Refused fault left)
    → IsRefusal text (refusal_at text (query_tokens text) fault (length (query_tokens text) - left))
first_refusal text fault left u h =
    let ts = query_tokens text in
    let x = read_refuses gap Unexpected (query all text 64) every (parsers.query all text 64) (fits_query all text 64) (some_query all text 64) ts (read.Refused fault left) h in
    let is = x.2 in
    let same : x.1 ≡ left = cc in
    let kind : x.0 ≡ fault = cc in
    let s = x.3 in
    let still : StillAt all text 64 s.before s.rest fault = subst (StillAt all text 64 s.before s.rest) kind s.still in
    let w : Whole gap s.rest = whole_rest gap s.before s.rest (subst (Whole gap) s.cut (whole_tokens text)) in
    let n : length ts - left ≡ length s.before = count_before ts s.before s.rest left s.cut (sym same ∙ s.place) in
    let at_rest : drop (length s.before) ts ≡ s.rest = ap (drop (length s.before)) s.cut ∙ drop_front s.before s.rest in
    subst (λ i. IsRefusal text (refusal_at text ts fault i)) (sym n)
    (refused_at text (place_of text (drop (tokens_before fault (length s.before)) ts)) (kind_at (drop (length s.before) ts) (kind_of fault)) (of_text (drop (length s.before) ts) (kind_of fault) (no_text_kind fault)) (
      u,
      record {
        fault = fault;
        before = s.before;
        rest = s.rest;
        cut = s.cut;
        begins = s.begins;
        ends = no_text gap Unexpected (query all text 64) every (parsers.query all text 64) (fits_query all text 64) s.before s.rest fault w still;
        why = why text fault s.before s.rest w still;
        place = refl;
        refused = ap (λ r. kind_at r (kind_of fault)) at_rest;
      },
    ))

-- ---- the answer

answered_ok : (text : Bytes) (ts : Tokens) (x : Result Query (ReadError Fault)) (q : Query) → answered text ts x ≡ Ok q → x ≡ Ok q
answered_ok text ts (Ok p) q h = let e : p ≡ q = cc in ap (λ y. Ok y) e
answered_ok text ts (Err read.NoMemory) q h = absurd (cc)
answered_ok text ts (Err (read.Refused f left)) q h = absurd (cc)

answered_err : (text : Bytes) (x : Result Query (ReadError Fault)) (e : SqlRefusal) → IsUtf8 text → ended Unexpected (parsers.query all text 64 (query_tokens text)) ≡ x → answered text (query_tokens text) x ≡ Err e → IsRefusal text e
answered_err text (Ok q) e u is h = absurd (cc)
answered_err text (Err read.NoMemory) e u is h = let same : NoMemory ≡ e = cc in subst (IsRefusal text) same tt
answered_err text (Err (read.Refused f left)) e u is h =
    let same : refusal_at text (query_tokens text) f (length (query_tokens text) - left) ≡ e = cc in
    subst (IsRefusal text) same (first_refusal text f left u is)

pub query_of-text : (text : Bytes) → is_utf8 text ≡ true → query_of text ≡ read_tokens text (query_tokens text)
unfolding query_of
query_of-text text e = rw e refl

pub query_of-not_text : (text : Bytes) → is_utf8 text ≡ false → query_of text ≡ Err (Bad (utf8_valid_len text) sql.NotText)
unfolding query_of
query_of-not_text text e = rw e refl

-- a query is answered by its tree
query_of-complete : (text : Bytes) (q : Query) → IsQuery text q → query_of text ≡ Ok q
query_of-complete text q h =
    query_of-text text (is_utf8-from_IsUtf8 text h.0)
    ∙ ap (answered text (query_tokens text)) (read_complete gap Unexpected (query all text 64) every (parsers.query all text 64) (fits_query all text 64) (query_tokens text) q (whole_tokens text) h.1)

-- what is answered is a query
query_of-sound : (text : Bytes) (q : Query) → query_of text ≡ Ok q → IsQuery text q
query_of-sound text q h = ⊎_elim
    (λ e. (IsUtf8-from_is_utf8 text e, read_sound gap Unexpected (query all text 64) every (parsers.query all text 64) (fits_query all text 64) (query_tokens text) q (answered_ok text (query_tokens text) (ended Unexpected (parsers.query all text 64 (query_tokens text))) q (sym (query_of-text text e) ∙ h))))
    (λ e. let f = query_of-not_text text e in absurd (cc))
    (bool_cases (is_utf8 text))

-- the first byte that is part of no character
valid_up_to : (text : Bytes) → is_utf8 text ≡ false → IsValidUpTo text (utf8_valid_len text)
valid_up_to text u = schema_of-refuses text (Bad (utf8_valid_len text) sql.NotText) (schema_of-not_text text u)

-- a refusal is the first
query_of-refuses : (text : Bytes) (e : SqlRefusal) → query_of text ≡ Err e → IsRefusal text e
query_of-refuses text e h = ⊎_elim
    (λ u. answered_err text (ended Unexpected (parsers.query all text 64 (query_tokens text))) e (IsUtf8-from_is_utf8 text u) refl (sym (query_of-text text u) ∙ h))
    (λ u.
    let same : ◌≡◌ {A = Result Query SqlRefusal} (Err (Bad (utf8_valid_len text) sql.NotText)) (Err e) = sym (query_of-not_text text u) ∙ h in
    let is : Bad (utf8_valid_len text) sql.NotText ≡ e = cc in
    subst (IsRefusal text) is (valid_up_to text u))
    (bool_cases (is_utf8 text))

-- ---- what a function that gives this answer promises

other : (at : ℕ) (kind : SqlKind) → Bad at kind ≡ NoMemory → ⊥
other at kind h = cc

module _ (text : Bytes) where
  abbrev pub Answers : Result Query SqlRefusal → Type 0
  Answers r = MatchResult r (λ q. query_of text ≡ Ok q) (λ e. e ≢ NoMemory → query_of text ≡ Err e)

  pub found_by : (r : Result Query SqlRefusal) → Answers r → IfOk r (IsQuery text)
  found_by (Ok q) h = query_of-sound text q h
  found_by (Err e) h = tt

  pub only_by : (r : Result Query SqlRefusal) → Answers r → (q : Query) → IsQuery text q → MatchResult r (λ p. p ≡ q) (λ e. e ≡ NoMemory)
  only_by (Ok p) h q l = let c = query_of-complete text q l in cc
  only_by (Err NoMemory) h q l = refl
  only_by (Err (Bad at kind)) h q l = let c = query_of-complete text q l in let d = h (other at kind) in absurd (cc)

  pub refused_by : (r : Result Query SqlRefusal) → Answers r → IfErr r (IsRefusal text)
  refused_by (Ok q) h = tt
  refused_by (Err NoMemory) h = tt
  refused_by (Err (Bad at kind)) h = query_of-refuses text (Bad at kind) (h (other at kind))
