-- A line has but one first refusal, and none where it spells a statement.
use Rattle.std.proofs.Common.{◌≡◌, ℕ, ◌<◌, List, [], ◌∷◌, ◌++◌, length, refl, ap, sym, ◌∙◌, subst, ◌⊎◌, inl, inr, ⊎_elim, append_assoc, append-nil, arith}
use Rattle.std.specs.Prelude.{Option, None}
use Rattle.std.proofs.lemmas.Bool.{cases_order}
use Rattle.phrases.specs.declared.refusal.ReadError.TheVariants.{Refused}
use Rattle.phrases.specs.Promise.{Begins, EndsNone, GoesOn}
use Rattle.phrases.proofs.Cuts.{front_goes_on, same_cut}
use Rattle.programs.specs.declared.op.Statement.{Statement}
use Rattle.voodoo_text.specs.declared.kind.Kind.TheVariants as k
use Rattle.voodoo_text.specs.declared.refusal.TextKind.{TextKind}
use Rattle.voodoo_text.specs.declared.refusal.TextKind.TheVariants.{NotText, BadToken, Unexpected, BadNumber, NotAdmissible}
use Rattle.voodoo_text.specs.Tokens.{Token}
use Rattle.voodoo_text.specs.PlaceGrammar.{ranges, order_alone}
use Rattle.voodoo_text.specs.Grammar.{line}
use Rattle.voodoo_text.specs.GrammarLaws.{NextIs, Why, IsFirstRefusal}

abbrev Ends : List Token → List Token → Type 0
Ends before rest = EndsNone (line ranges) before rest

-- ---- places

-- a line ends nowhere
no_line : (before rest : List Token) (x : Option Statement) → Ends before rest → line ranges (before ++ rest) x → ⊥
no_line before [] x e l = e x (subst (λ y. line ranges y x) (append-nil before) l)
no_line before (t ∷ rest) x e l = e (record { more = rest; value = x; reads = subst (λ y. line ranges y x) (sym (append_assoc before (t ∷ []) rest)) l })

-- nothing that begins a line is longer than what a line ends behind
no_longer : (before rest text short : List Token) → Ends before rest → Begins (line ranges) text → text ++ short ≡ before ++ rest → length short < length rest → ⊥
no_longer before [] text short e b cut lt = omega arith
no_longer before (t ∷ post) text short e b cut lt =
    let z = front_goes_on before text short t post cut lt in
    e (record { more = z.0 ++ b.more; value = b.value; reads = subst (λ x. line ranges x b.value) (ap (λ x. x ++ b.more) z.1 ∙ append_assoc (before ++ t ∷ []) z.0 b.more) b.reads })

one_end : (a b c d : List Token) → Ends a b → Ends c d → Begins (line ranges) a → Begins (line ranges) c → a ++ b ≡ c ++ d → length b ≡ length d
one_end a b c d e f begins begins' cut = ⊎_elim
    (λ same. same)
    (λ x. ⊎_elim
    (λ lt. absurd (no_longer c d a b f begins cut lt))
    (λ lt. absurd (no_longer a b c d e begins' (sym cut) lt))
    x)
    (cases_order (length b) (length d))

-- ---- a refusal ends each line, or is that of a Range that is not admissible

abbrev SpellsNone : TextKind → List Token → List Token → Type 0
SpellsNone kind before rest = (rest ≡ []) × line ranges (before ++ rest) None

by_why : (kind : TextKind) (before rest : List Token) → Why kind before rest → SpellsNone kind before rest ⊎ Ends before rest
by_why BadToken before rest w = inr w.1
by_why BadNumber before rest w = inr w.1
by_why Unexpected before rest w = inr w.1
by_why NotAdmissible before rest w = inl (w.0, subst (λ y. line ranges y None) (sym (ap (λ r. before ++ r) w.0 ∙ append-nil before)) w.1)
by_why NotText before rest w = absurd w

-- a line that is refused spells no other thing than its refusal says
pub spells : (ts : List Token) (kind : TextKind) (left : ℕ) (x : Option Statement) → IsFirstRefusal ts kind left → line ranges ts x → line ranges ts None
spells ts kind left x r l = ⊎_elim
    (λ z. subst (λ y. line ranges y None) (sym r.cut) z.1)
    (λ e. absurd (no_line r.before r.rest x e (subst (λ y. line ranges y x) r.cut l)))
    (by_why kind r.before r.rest r.why)

-- ---- kinds

two_kinds : (rest : List Token) → NextIs k.Bad rest → NextIs k.Number rest → ⊥
two_kinds [] h g = h
two_kinds (t ∷ rest) h g = cc

on_or_none : (before rest : List Token) → GoesOn (line order_alone) before rest → EndsNone (line order_alone) before rest → ⊥
on_or_none before [] h e = h
on_or_none before (t ∷ rest) h e = e h

not_both : (before rest : List Token) → (rest ≡ []) × line ranges before None → Ends before rest → ⊥
not_both before rest w e = no_line before rest None e (subst (λ y. line ranges y None) (sym (ap (λ r. before ++ r) w.0 ∙ append-nil before)) w.1)

one_kind : (i j : TextKind) (before rest : List Token) → Why i before rest → Why j before rest → i ≡ j
one_kind BadToken BadToken before rest w v = refl
one_kind BadToken BadNumber before rest w v = absurd (two_kinds rest w.0 v.0)
one_kind BadToken Unexpected before rest w v = absurd (v.0 w.0)
one_kind BadToken NotAdmissible before rest w v = absurd (not_both before rest v w.1)
one_kind BadNumber BadToken before rest w v = absurd (two_kinds rest v.0 w.0)
one_kind BadNumber BadNumber before rest w v = refl
one_kind BadNumber Unexpected before rest w v = absurd (on_or_none before rest w.2 v.2)
one_kind BadNumber NotAdmissible before rest w v = absurd (not_both before rest v w.1)
one_kind Unexpected BadToken before rest w v = absurd (w.0 v.0)
one_kind Unexpected BadNumber before rest w v = absurd (on_or_none before rest v.2 w.2)
one_kind Unexpected Unexpected before rest w v = refl
one_kind Unexpected NotAdmissible before rest w v = absurd (not_both before rest v w.1)
one_kind NotAdmissible BadToken before rest w v = absurd (not_both before rest w v.1)
one_kind NotAdmissible BadNumber before rest w v = absurd (not_both before rest w v.1)
one_kind NotAdmissible Unexpected before rest w v = absurd (not_both before rest w v.1)
one_kind NotAdmissible NotAdmissible before rest w v = refl
one_kind NotText j before rest w v = absurd w
one_kind i NotText before rest w v = absurd v

-- ---- one refusal

pub one_refusal : (ts : List Token) (i j : TextKind) (m n : ℕ) → IsFirstRefusal ts i m → IsFirstRefusal ts j n → Refused i m ≡ Refused j n
one_refusal ts i j m n x y =
    let cut : x.before ++ x.rest ≡ y.before ++ y.rest = sym x.cut ∙ y.cut in
    let place : length x.rest ≡ length y.rest = ⊎_elim
    (λ z. ⊎_elim
    (λ w. ap length z.0 ∙ sym (ap length w.0))
    (λ f. absurd (no_line y.before y.rest None f (subst (λ t. line ranges t None) cut z.1)))
    (by_why j y.before y.rest y.why))
    (λ e. ⊎_elim
    (λ w. absurd (no_line x.before x.rest None e (subst (λ t. line ranges t None) (sym cut) w.1)))
    (λ f. one_end x.before x.rest y.before y.rest e f x.begins y.begins cut)
    (by_why j y.before y.rest y.why))
    (by_why i x.before x.rest x.why) in
    let same = same_cut x.before x.rest y.before y.rest cut place in
    let why : Why i y.before y.rest = subst (λ b. Why i b y.rest) same.0 (subst (λ r. Why i x.before r) same.1 x.why) in
    let kind = one_kind i j y.before y.rest why y.why in
    let left : m ≡ n = x.place ∙ place ∙ sym y.place in
    λ e. Refused (kind e) (left e)
