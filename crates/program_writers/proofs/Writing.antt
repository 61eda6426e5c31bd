-- How a call that adds a part is proved from the calls that it makes.
use Rattle.std.proofs.Common.{◌≡◌, ℕ, ◌+◌, ◌<◌, ◌≤◌, List, [], ◌∷◌, ◌++◌, length, get_or, drop, refl, sym, ap, ◌∙◌, subst, append_assoc, append-nil, Result, Ok, Err, IfOk}
use Rattle.std.specs.List.{enumerate_from}
use Rattle.std.proofs.lemmas.List.{drop_more, drop_all}
use Rattle.programs.specs.declared.op.Statement.{Statement}
use Rattle.programs.specs.Mentions.{Label}
use Rattle.program_writers.specs.declared.writer.Writer.{Writer as Text}
use Rattle.program_writers.specs.Codes.{Adds}
use Rattle.program_writers.specs.Writers.{Writer, Written, tell, ◌>>=◌, through, stem, append, numbered}

pub tells : {A : Type 0} (a : A) (w : Text) → Adds (tell a) w w a
tells a w = record { statements = sym (append-nil w.statements.items); next_number = refl; tells = refl }

-- the same part by another name
pub is_added : {A : Type 0} (m n : Writer A) (old new : Text) (a : A) → n ≡ m → Adds m old new a → Adds n old new a
is_added m n old new a e h = subst (λ (k : Writer _). Adds k old new a) (sym e) h

-- what stands behind a part
behind_is : {A B : Type 0} (m : Writer A) (f : A → Writer B) (old mid : Text) (a : A) → Adds m old mid a → f a mid.next ≡ f (m old.next).told (m old.next).next
behind_is m f old mid a h = ap (λ (x : _). f x mid.next) h.tells ∙ ap (f (m old.next).told) h.next_number

pub added : {A B : Type 0} (m : Writer A) (f : A → Writer B) (old mid new : Text) (a : A) (b : B) → Adds m old mid a → Adds (f a) mid new b → Adds (m >>= f) old new b
added {A} {B} m f old mid new a b g h =
    let same : f a mid.next ≡ f (m old.next).told (m old.next).next = behind_is m f old mid a g in
    record {
      statements =
          h.statements ∙ ap (λ (l : List Statement). l ++ (f a mid.next).statements) g.statements
          ∙ ap (λ (w : Written B). (old.statements.items ++ (m old.next).statements) ++ w.statements) same
          ∙ append_assoc old.statements.items (m old.next).statements (f (m old.next).told (m old.next).next).statements;
      next_number = h.next_number ∙ ap (λ (w : Written B). w.next) same;
      tells = h.tells ∙ ap (λ (w : Written B). w.told) same;
    }

-- where memory may run out; what the call returns is seen as some value
pub then_added : {A B R E : Type 0} (m : Writer A) (f : A → Writer B) (old mid new : Text) (a : A) (r : Result R E) (v : R → B) → Adds m old mid a → IfOk r (λ x. Adds (f a) mid new (v x)) → IfOk r (λ x. Adds (m >>= f) old new (v x))
then_added m f old mid new a (Ok x) v g h = added m f old mid new a (v x) g h
then_added m f old mid new a (Err e) v g h = tt

-- statements whose names begin with a new name
pub stem_added : {A : Type 0} (word : Label) (statements : Label → List Statement) (tells : Label → A) (old mid new : Text) (name : Label) → Adds (stem word) old mid name → Adds (append (statements name)) mid new (record {})
    → Adds (λ k. record { statements = statements (numbered word k); next = k + 1; told = tells (numbered word k) }) old new (tells name)
stem_added word statements tells old mid new name g h =
    record {
      statements = h.statements ∙ ap (λ (l : List Statement). l ++ statements name) (g.statements ∙ append-nil old.statements.items) ∙ ap (λ (n : Label). old.statements.items ++ statements n) g.tells;
      next_number = h.next_number ∙ g.next_number;
      tells = ap tells g.tells;
    }

-- ---- loops

-- what is left to write, behind what is written and told so far
abbrev pub Continues : {A B : Type 0} → (A → Writer B) → Text → Writer B → Text → A → Type 0
Continues {A} {B} rest old whole now told = (new : Text) (b : B) → Adds (rest told) now new b → Adds whole old new b

pub starts : {A B : Type 0} (rest : A → Writer B) (old : Text) (told : A) → Continues rest old (rest told) old told
starts rest old told new b h = h

-- one thing more
pub goes_on : {A B : Type 0} (f : A → B → Writer A) (b : B) (bs : List B) (old now next : Text) (whole : Writer A) (told a : A) → Continues (λ x. through f x (b ∷ bs)) old whole now told → Adds (f told b) now next a → Continues (λ x. through f x bs) old whole next a
goes_on f b bs old now next whole told a so_far step new z rest = so_far new z (added (f told b) (λ x. through f x bs) now next new a z step rest)

pub ends : {A B : Type 0} (f : A → B → Writer A) (old now : Text) (whole : Writer A) (told : A) → Continues (λ x. through f x []) old whole now told → Adds whole old now told
ends f old now whole told so_far = so_far now told (tells told now)

-- over the items of a list from a place on
pub item_next : {A B : Type 0} (f : A → B → Writer A) (l : List B) (i : ℕ) (y : B) (old now next : Text) (whole : Writer A) (told a : A) → i < length l → y ≡ get_or l i y → Continues (λ x. through f x (drop i l)) old whole now told → Adds (f told y) now next a → Continues (λ x. through f x (drop (i + 1) l)) old whole next a
item_next {A} {B} f l i y old now next whole told a h is so_far step =
    let e : drop i l ≡ y ∷ drop (i + 1) l = drop_more l i y h ∙ ap (λ (x : B). x ∷ drop (i + 1) l) (sym is) in
    goes_on f y (drop (i + 1) l) old now next whole told a (subst (λ (bs : List B). Continues (λ x. through f x bs) old whole now told) e so_far) step

pub items_end : {A B : Type 0} (f : A → B → Writer A) (l : List B) (i : ℕ) (old now : Text) (whole : Writer A) (told : A) → length l ≤ i → Continues (λ x. through f x (drop i l)) old whole now told → Adds whole old now told
items_end {A} {B} f l i old now whole told h so_far = ends f old now whole told (subst (λ (bs : List B). Continues (λ x. through f x bs) old whole now told) (drop_all i l h) so_far)

-- the same with their numbers
pub numbered_next : {A B : Type 0} (f : A → ℕ × B → Writer A) (l : List B) (i k : ℕ) (y : B) (old now next : Text) (whole : Writer A) (told a : A) → i < length l → y ≡ get_or l i y → Continues (λ x. through f x (enumerate_from k (drop i l))) old whole now told → Adds (f told (k, y)) now next a → Continues (λ x. through f x (enumerate_from (k + 1) (drop (i + 1) l))) old whole next a
numbered_next {A} {B} f l i k y old now next whole told a h is so_far step =
    let e : drop i l ≡ y ∷ drop (i + 1) l = drop_more l i y h ∙ ap (λ (x : B). x ∷ drop (i + 1) l) (sym is) in
    goes_on f (k, y) (enumerate_from (k + 1) (drop (i + 1) l)) old now next whole told a (subst (λ (bs : List B). Continues (λ x. through f x (enumerate_from k bs)) old whole now told) e so_far) step

pub numbered_end : {A B : Type 0} (f : A → ℕ × B → Writer A) (l : List B) (i k : ℕ) (old now : Text) (whole : Writer A) (told : A) → length l ≤ i → Continues (λ x. through f x (enumerate_from k (drop i l))) old whole now told → Adds whole old now told
numbered_end {A} {B} f l i k old now whole told h so_far = ends f old now whole told (subst (λ (bs : List B). Continues (λ x. through f x (enumerate_from k bs)) old whole now told) (drop_all i l h) so_far)
