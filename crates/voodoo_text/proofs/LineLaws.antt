-- A line is read as the statement that it spells, or refused at the first token that cannot stand.
use Rattle.std.proofs.Common.{◌≡◌, ℕ, List, [], ◌∷◌, refl, ap, sym, ◌∙◌, subst, ◌⊎◌, inl, inr, ⊎_elim, append-nil}
use Rattle.std.specs.Prelude.{Option, Some, None, Result, Ok, Err}
use Rattle.phrases.specs.declared.refusal.ReadError.{ReadError}
use Rattle.phrases.specs.declared.refusal.ReadError.TheVariants.{NoMemory, Refused}
use Rattle.phrases.specs.Parsers.{Outcome, and_then, ended}
use Rattle.phrases.proofs.Good.{free}
use Rattle.phrases.proofs.Cuts.{same_cut}
use Rattle.phrases.proofs.Easing.{Whole, Still, read_sound, read_complete, no_text, read_refuses, goes_on, still_refused}
use Rattle.programs.specs.declared.op.Statement.{Statement}
use Rattle.voodoo_text.specs.declared.refusal.TextKind.{TextKind}
use Rattle.voodoo_text.specs.declared.refusal.TextKind.TheVariants.{NotText, BadToken, Unexpected, BadNumber, NotAdmissible}
use Rattle.voodoo_text.specs.Tokens.{Token}
use Rattle.voodoo_text.specs.Statements as st
use Rattle.voodoo_text.specs.Statements.{line_of, admissible}
use Rattle.voodoo_text.specs.PlaceGrammar.{Asked, ranges, order_alone}
use Rattle.voodoo_text.specs.Grammar.{line}
use Rattle.voodoo_text.specs.GrammarLaws.{Why, IsFirstRefusal, IsLineRefusal, LineLaws}
use Rattle.voodoo_text.proofs.OneToken.{Says}
use Rattle.voodoo_text.proofs.OrderAlone.{zeros_spell, zeros_spelled}
use Rattle.voodoo_text.proofs.FirstRefusals.{spells, one_refusal}
use Rattle.voodoo_text.proofs.WholeLines.{every, closing, whole, rule_whole}

-- ---- the answer of a line, by the parser of whole lines

abbrev read : List Token → Result (Option Statement) (ReadError TextKind)
read ts = ended Unexpected (whole ts)

abbrev answered : Result (Option Statement) (ReadError TextKind) → Result Statement (ReadError TextKind)
answered (Ok x) = admissible x
answered (Err e) = Err e

answered_by : (x : Outcome Token TextKind (Option Statement)) → answered (ended Unexpected (and_then x closing)) ≡ st.before_end x
unfolding st.at_end
answered_by (Ok (s, [])) = refl
answered_by (Ok (s, t ∷ ts)) = refl
answered_by (Err e) = refl

line_is : (ts : List Token) → answered (read ts) ≡ line_of ts
unfolding line_of
line_is ts = answered_by (st.statement_of ts)

err_by : (x : Outcome Token TextKind (Option Statement)) (e : ReadError TextKind) → ended Unexpected (and_then x closing) ≡ Err e → and_then x closing ≡ Err e
unfolding st.at_end
err_by (Ok (s, [])) e h = absurd (cc)
err_by (Ok (s, t ∷ ts)) e h = cc
err_by (Err d) e h = cc

answered_ok : (x : Result (Option Statement) (ReadError TextKind)) (s : Statement) → answered x ≡ Ok s → x ≡ Ok (Some s)
answered_ok (Ok (Some t)) s h = let e : t ≡ s = cc in ap (λ y. Ok (Some y)) e
answered_ok (Ok None) s h = absurd (cc)
answered_ok (Err e) s h = absurd (cc)

answered_err : (x : Result (Option Statement) (ReadError TextKind)) (e : ReadError TextKind) → answered x ≡ Err e → ((x ≡ Ok None) × (Refused NotAdmissible 0 ≡ e)) ⊎ (x ≡ Err e)
answered_err (Ok (Some t)) e h = absurd (cc)
answered_err (Ok None) e h = inl (refl, cc)
answered_err (Err d) e h = inr (cc)

-- ---- what is read is spelled, and what is spelled is read

no_gaps : (ts : List Token) → Whole free ts
no_gaps [] = refl
no_gaps (t ∷ ts) = no_gaps ts

spelled : (ts : List Token) (x : Option Statement) → read ts ≡ Ok x → line ranges ts x
spelled ts x h = read_sound free Unexpected (line ranges) every whole rule_whole.reads ts x h

reads : (ts : List Token) (x : Option Statement) → line ranges ts x → read ts ≡ Ok x
reads ts x l = read_complete free Unexpected (line ranges) every whole rule_whole.reads ts x (no_gaps ts) l

read_as : (ts : List Token) (x : Option Statement) → line ranges ts x → line_of ts ≡ admissible x
read_as ts x l = sym (line_is ts) ∙ ap answered (reads ts x l)

reads_easy : (ts : List Token) (x : Option Statement) → line order_alone ts x → ended Unexpected (rule_whole.easy ts) ≡ Ok x
reads_easy ts x l = read_complete free Unexpected (line order_alone) every rule_whole.easy rule_whole.reads_easy ts x (no_gaps ts) l

one : (m : Asked) (ts : List Token) (s t : Option Statement) → line m ts s → line m ts t → s ≡ t
one ranges ts s t l m = let a = reads ts s l in let b = reads ts t m in cc
one order_alone ts s t l m = let a = reads_easy ts s l in let b = reads_easy ts t m in cc

-- ---- the first refusal

other : Unexpected ≡ BadNumber → ⊥
other h = cc

why : (fault : TextKind) (before rest : List Token) → Says fault rest → Still free Unexpected whole before rest fault → Why fault before rest
why BadToken before rest says h = (says, no_text free Unexpected (line ranges) every whole rule_whole.reads before rest BadToken (no_gaps rest) h)
why BadNumber before rest says h = (
  says,
  no_text free Unexpected (line ranges) every whole rule_whole.reads before rest BadNumber (no_gaps rest) h,
  goes_on free Unexpected (line order_alone) every rule_whole.easy rule_whole.reads_easy whole BadNumber other rule_whole.rel before rest h,
)
why Unexpected before rest says h = (
  says,
  no_text free Unexpected (line ranges) every whole rule_whole.reads before rest Unexpected (no_gaps rest) h,
  no_text free Unexpected (line order_alone) every rule_whole.easy rule_whole.reads_easy before rest Unexpected (no_gaps rest)
      (still_refused free Unexpected rule_whole.easy whole BadNumber rule_whole.rel before rest Unexpected other h),
)
why NotAdmissible before rest says h = absurd says
why NotText before rest says h = absurd says

not_admissible : (ts : List Token) → read ts ≡ Ok None → IsFirstRefusal ts NotAdmissible 0
not_admissible ts h =
    let l = spelled ts None h in
    record { before = ts; rest = []; cut = sym (append-nil ts); place = refl; begins = record { more = []; value = None; reads = subst (λ x. line ranges x None) (sym (append-nil ts)) l }; why = (refl, l) }

first_refusal : (ts : List Token) (e : ReadError TextKind) → read ts ≡ Err e → IsLineRefusal ts e
first_refusal ts e h =
    let x = read_refuses free Unexpected (line ranges) every whole rule_whole.reads rule_whole.text ts e h in
    let fault = x.0 in
    let s = x.3 in
    let b = rule_whole.blames ts fault x.1 (err_by (st.statement_of ts) e h ∙ ap (λ d. Err d) x.2) in
    let same = same_cut b.before b.rest s.before s.rest (sym b.cut ∙ s.cut) (sym b.place ∙ s.place) in
    let first : IsFirstRefusal ts fault x.1 = record {
      before = s.before;
      rest = s.rest;
      cut = s.cut;
      place = s.place;
      begins = s.begins;
      why = why fault s.before s.rest (subst (λ r. Says fault r) same.1 b.says) s.still;
    } in
    subst (IsLineRefusal ts) (sym x.2) first

refuses : (ts : List Token) (e : ReadError TextKind) → line_of ts ≡ Err e → IsLineRefusal ts e
refuses ts e h = ⊎_elim
    (λ x. subst (IsLineRefusal ts) x.1 (not_admissible ts x.0))
    (λ x. first_refusal ts e x)
    (answered_err (read ts) e (line_is ts ∙ h))

first : (ts : List Token) (kind : TextKind) (left : ℕ) → IsFirstRefusal ts kind left → line_of ts ≡ Err (Refused kind left)
first ts kind left x = by_answer (line_of ts) refl
  where
    by_answer : (r : Result Statement (ReadError TextKind)) → line_of ts ≡ r → line_of ts ≡ Err (Refused kind left)
    by_answer (Ok s) e =
        let l = spelled ts (Some s) (answered_ok (read ts) s (line_is ts ∙ e)) in
        let none = read_as ts None (spells ts kind left (Some s) x l) in
        absurd (cc)
    by_answer (Err NoMemory) e = absurd (refuses ts NoMemory e)
    by_answer (Err (Refused said n)) e = e ∙ ap (λ d. Err d) (one_refusal ts said kind n left (refuses ts (Refused said n) e) x)

pub line_laws : LineLaws
line_laws = record {
  found = λ ts s h. spelled ts (Some s) (answered_ok (read ts) s (line_is ts ∙ h));
  only = λ ts s l. read_as ts (Some s) l;
  none = λ ts l. read_as ts None l;
  refused = refuses;
  first = first;
  never_both = λ ts e s h l. let r = read_as ts (Some s) l in absurd (cc);
  one = one;
  order = λ ts. (zeros_spell ts, zeros_spelled ts);
}
