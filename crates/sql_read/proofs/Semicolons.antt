-- The tables of a schema are read by the next token: a semicolon goes on with a table, or is the last.
use Rattle.std.proofs.Common.{◌≡◌, Bool, true, false, ◌||◌, List, [], ◌∷◌, ◌++◌, refl, ap, sym, ◌∙◌, subst, inl, inr, ⊎_elim, append_assoc}
use Rattle.std.proofs.lemmas.List.{append-nil}
use Rattle.phrases.specs.Phrases.{Phrase, Both, nothing, none, ◌<|>◌, ◌>>◌, Repeated, done, more}
use Rattle.phrases.specs.Parsers.{pure, either, next, ◌>>=◌}
use Rattle.phrases.proofs.Good.{Good, Some, good_pure, good_either, good_refuse, good_same}
use Rattle.phrases.proofs.Repeats.{Turn}
use Rattle.phrases.proofs.Shapes.{begins_token, begins_nothing, good_map, good_list, next-or_right, begins_both}
use Rattle.sql_read.specs.declared.kind.Kind.TheVariants as k
use Rattle.sql_read.specs.declared.token_list.Token.{Token}
use Rattle.sql_read.specs.declared.fault.Fault.TheVariants.{Unexpected}
use Rattle.sql_read.specs.declared.definition.TableDef.{TableDef}
use Rattle.sql_read.specs.declared.schema.Run.{Run}
use Rattle.sql_read.specs.Kinds.{same_kind}
use Rattle.sql_read.specs.Lexis.{Bytes}
use Rattle.sql_read.specs.Schema as g
use Rattle.sql_read.specs.Schema.{is, word}
use Rattle.sql_read.specs.SchemaParsers as r
use Rattle.sql_read.specs.SchemaParsers.{expect, run}
use Rattle.sql_read.proofs.GoodSchema.{of_kind, good_create, begins_create, after}

-- ---- the same tables, a semicolon at a time

abbrev one_more : Bytes → List TableDef → Phrase Token Run
one_more text ts = Both (g.create text) (λ t. nothing (run (ts ++ t ∷ []) false))

abbrev behind : Bytes → List TableDef → Phrase Token Run
behind text ts = one_more text ts <|> nothing (run ts true)

abbrev turn_of : Bytes → Bool → List TableDef → Phrase Token Run
turn_of text true ts = none
turn_of text false ts = word k.Semicolon >> behind text ts

abbrev turns_of : Bytes → Run → Phrase Token Run
turns_of text a = turn_of text a.closed a.tables

abbrev listed : Bytes → Phrase Token Run
listed text = Both (g.create text) (λ t. Repeated (turns_of text) (run (t ∷ []) false))

abbrev runs : Bytes → Phrase Token Run
runs text = listed text <|> nothing (run [] true)

some_behind : (text : Bytes) (ts : List TableDef) → Some (behind text ts)
some_behind text ts = record { text = []; value = run ts true; reads = inr (refl, refl) }

good_behind : (text : Bytes) (ts : List TableDef) → Good (behind text ts) (is k.Create) (either (is k.Create) (r.create text >>= (λ t. pure (run (ts ++ t ∷ []) false))) (pure (run ts true)))
good_behind text ts = good_either (one_more text ts) (nothing (run ts true)) (r.create text >>= (λ t. pure (run (ts ++ t ∷ []) false))) (pure (run ts true)) (is k.Create) (is k.Create)
    (good_map (g.create text) (r.create text) (is k.Create) (good_create (is k.Create) text) (λ t. run (ts ++ t ∷ []) false))
    (good_pure (run ts true) (is k.Create))
    (begins_both (g.create text) (λ t. nothing (run (ts ++ t ∷ []) false)) (is k.Create) true (begins_create (is k.Create) true (λ t h. h) text))
    (λ xs rest a l h. begins_nothing (run ts true) (is k.Create) false xs rest a l h)

good_turn_of : (text : Bytes) (closed : Bool) (ts : List TableDef) → Good (turn_of text closed ts) (is k.Create) (r.next_table text closed ts)
unfolding r.next_table
good_turn_of text true ts = good_refuse Unexpected (is k.Create)
good_turn_of text false ts = after k.Semicolon (λ _. behind text ts) _ (is k.Create) (λ _. good_behind text ts) (λ _. some_behind text ts)

begins_turn_of : (text : Bytes) (closed : Bool) (ts : List TableDef) (xs rest : List Token) (b : Run) → turn_of text closed ts xs b → next (is k.Semicolon) (xs ++ rest) ≡ true
begins_turn_of text true ts xs rest b l = absurd l
begins_turn_of text false ts xs rest b l = begins_token (is k.Semicolon) _ (is k.Semicolon) true (λ t h. h) xs rest b l

turn_table : (text : Bytes) → Turn (turns_of text) (is k.Create) (is k.Semicolon) (r.another text)
unfolding same_kind
turn_table text = record {
  good = λ a. good_turn_of text a.closed a.tables;
  begins = λ a xs rest b l. begins_turn_of text a.closed a.tables xs rest b l;
  apart = λ t h. of_kind (λ x. same_kind x k.Create) k.Semicolon t h;
}

abbrev pub stop_schema : Token → Bool
stop_schema t = is k.Semicolon t || is k.Create t

good_listed : (text : Bytes) → Good (listed text) stop_schema (r.tables text)
unfolding r.tables
good_listed text = good_list (g.create text) (r.create text) (is k.Create) (turns_of text) (is k.Semicolon) (r.another text) (λ t. run (t ∷ []) false) (good_create (is k.Create) text) (turn_table text)

good_runs : (text : Bytes) → Good (runs text) stop_schema (r.runs text)
unfolding r.runs
good_runs text = good_either (listed text) (nothing (run [] true)) (r.tables text) (pure (run [] true)) (is k.Create) stop_schema (good_listed text) (good_pure (run [] true) stop_schema)
    (begins_both (g.create text) (λ t. Repeated (turns_of text) (run (t ∷ []) false)) (is k.Create) true (begins_create (is k.Create) true (λ t h. h) text))
    (λ xs rest a l h. begins_nothing (run [] true) (is k.Create) false xs rest a l (next-or_right (is k.Semicolon) (is k.Create) rest h))

-- ---- from there to the grammar

-- a semicolon at the end, or none
abbrev ending : List TableDef → Phrase Token (List TableDef)
ending ts = (word k.Semicolon >> nothing ts) <|> nothing ts

abbrev tail : Bytes → Bool → List TableDef → Phrase Token (List TableDef)
tail text true ts = nothing ts
tail text false ts = Both (Repeated (g.another text) ts) ending

tail_done : (text : Bytes) (closed : Bool) (ts : List TableDef) → tail text closed ts [] ts
tail_done text true ts = (refl, refl)
tail_done text false ts = record { left = []; right = []; between = ts; reads_left = done ts; reads_right = inr (refl, refl); cut = refl }

-- a table after a semicolon
tail_more : (text : Bytes) (ts : List TableDef) (us vs : List Token) (b : Run) (c : List TableDef) → Both (word k.Semicolon) (λ _. one_more text ts) us b → tail text b.closed b.tables vs c → tail text false ts (us ++ vs) c
tail_more text ts us vs b c m h =
    let x = m.reads_right in
    let h' : tail text false (ts ++ x.between ∷ []) vs c = subst (λ y. tail text y.closed y.tables vs c) (sym x.reads_right.1) h in
    let step : g.another text ts us (ts ++ x.between ∷ []) = record { left = m.left; right = m.right; between = m.between; reads_left = m.reads_left; reads_right = record { left = x.left; right = x.right; between = x.between; reads_left = x.reads_left; reads_right = (x.reads_right.0, refl); cut = x.cut }; cut = m.cut } in
    record {
      left = us ++ h'.left;
      right = h'.right;
      between = h'.between;
      reads_left = more ts (ts ++ x.between ∷ []) h'.between us h'.left step h'.reads_left;
      reads_right = h'.reads_right;
      cut = ap (λ y. us ++ y) h'.cut ∙ sym (append_assoc us h'.left h'.right);
    }

-- the semicolon at the end
tail_last : (text : Bytes) (ts : List TableDef) (us vs : List Token) (b : Run) (c : List TableDef) → Both (word k.Semicolon) (λ _. nothing (run ts true)) us b → tail text b.closed b.tables vs c → tail text false ts (us ++ vs) c
tail_last text ts us vs b c m h =
    let x = m.reads_right in
    let h' : tail text true ts vs c = subst (λ y. tail text y.closed y.tables vs c) (sym x.1) h in
    record {
      left = [];
      right = us ++ vs;
      between = ts;
      reads_left = done ts;
      reads_right = inl (record { left = m.left; right = []; between = m.between; reads_left = m.reads_left; reads_right = (refl, h'.1); cut = ap (λ y. us ++ y) h'.0 ∙ append-nil us ∙ m.cut ∙ ap (λ y. m.left ++ y) x.0 });
      cut = refl;
    }

tail_step : (text : Bytes) (closed : Bool) (ts : List TableDef) (us vs : List Token) (b : Run) (c : List TableDef) → turn_of text closed ts us b → tail text b.closed b.tables vs c → tail text closed ts (us ++ vs) c
tail_step text true ts us vs b c m h = absurd m
tail_step text false ts us vs b c m h = ⊎_elim
    (λ x. tail_more text ts us vs b c (record { left = m.left; right = m.right; between = m.between; reads_left = m.reads_left; reads_right = x; cut = m.cut }) h)
    (λ x. tail_last text ts us vs b c (record { left = m.left; right = m.right; between = m.between; reads_left = m.reads_left; reads_right = x; cut = m.cut }) h)
    m.reads_right

tail_of : (text : Bytes) (a c : Run) (xs : List Token) → Repeated (turns_of text) a xs c → tail text a.closed a.tables xs c.tables
tail_of text a c xs (done _) = tail_done text a.closed a.tables
tail_of text a c xs (more _ b _ us vs m l) = tail_step text a.closed a.tables us vs b c.tables m (tail_of text b c vs l)

-- ---- and back

turns_another : (text : Bytes) (a mid : List TableDef) (xs : List Token) → Repeated (g.another text) a xs mid → (ys : List Token) (c : Run) → Repeated (turns_of text) (run mid false) ys c → Repeated (turns_of text) (run a false) (xs ++ ys) c
turns_another text a mid xs (done _) ys c h = h
turns_another text a mid xs (more _ b _ us vs m l) ys c h =
    let x = m.reads_right in
    let step : turns_of text (run a false) us (run b false) = record { left = m.left; right = m.right; between = m.between; reads_left = m.reads_left; reads_right = inl (record { left = x.left; right = x.right; between = x.between; reads_left = x.reads_left; reads_right = (x.reads_right.0, ap (λ y. run y false) x.reads_right.1); cut = x.cut }); cut = m.cut } in
    subst (λ y. Repeated (turns_of text) (run a false) y c) (sym (append_assoc us vs ys)) (more (run a false) (run b false) c us (vs ++ ys) step (turns_another text b mid vs l ys c h))

-- the tables behind some, with what follows them
record Turned (text : Bytes) (a ts : List TableDef) (xs : List Token) : Type 0 where
  closed : Bool
  reads : Repeated (turns_of text) (run a false) xs (run ts closed)

turned_ending : (text : Bytes) (a ts : List TableDef) (xs : List Token) → ending a xs ts → Turned text a ts xs
turned_ending text a ts xs l = ⊎_elim
    (λ m.
    let x = m.reads_right in
    let step : turns_of text (run a false) xs (run a true) = record { left = m.left; right = m.right; between = m.between; reads_left = m.reads_left; reads_right = inr (x.0, refl); cut = m.cut } in
    let all : Repeated (turns_of text) (run a false) (xs ++ []) (run a true) = more (run a false) (run a true) (run a true) xs [] step (done (run a true)) in
    record { closed = true; reads = subst (λ y. Repeated (turns_of text) (run a false) xs (run y true)) x.1 (subst (λ y. Repeated (turns_of text) (run a false) y (run a true)) (append-nil xs) all) })
    (λ m.
    let none_left : Repeated (turns_of text) (run a false) [] (run a false) = done (run a false) in
    record { closed = false; reads = subst (λ y. Repeated (turns_of text) (run a false) xs (run y false)) m.1 (subst (λ y. Repeated (turns_of text) (run a false) y (run a false)) (sym m.0) none_left) })
    l

turned : (text : Bytes) (a ts : List TableDef) (xs : List Token) → tail text false a xs ts → Turned text a ts xs
turned text a ts xs l =
    let e = turned_ending text l.between ts l.right l.reads_right in
    record { closed = e.closed; reads = subst (λ y. Repeated (turns_of text) (run a false) y (run ts e.closed)) (sym l.cut) (turns_another text a l.between l.left l.reads_left l.right (run ts e.closed) e.reads) }

-- ---- the whole

abbrev tables : Bytes → Phrase Token (List TableDef)
tables text = Both (runs text) (λ a. nothing a.tables)

there : (text : Bytes) (xs : List Token) (ts : List TableDef) → tables text xs ts → g.schema text xs ts
there text xs ts l =
    let same : xs ≡ l.left = l.cut ∙ ap (λ y. l.left ++ y) l.reads_right.0 ∙ append-nil l.left in
    let value : l.between.tables ≡ ts = l.reads_right.1 in
    subst (λ y. g.schema text y ts) (sym same)
    (⊎_elim
    (λ m. inr (record { left = m.left; right = m.right; between = m.between; reads_left = m.reads_left; reads_right = subst (tail text false (m.between ∷ []) m.right) value (tail_of text (run (m.between ∷ []) false) l.between m.right m.reads_right); cut = m.cut }))
    (λ m. inl (m.0, ap (λ (x : Run). x.tables) m.1 ∙ value))
    l.reads_left)

back : (text : Bytes) (xs : List Token) (ts : List TableDef) → g.schema text xs ts → tables text xs ts
back text xs ts l = ⊎_elim
    (λ m. record { left = xs; right = []; between = run [] true; reads_left = inr (m.0, refl); reads_right = (refl, m.1); cut = sym (append-nil xs) })
    (λ m.
    let e = turned text (m.between ∷ []) ts m.right m.reads_right in
    record { left = xs; right = []; between = run ts e.closed; reads_left = inl (record { left = m.left; right = m.right; between = m.between; reads_left = m.reads_left; reads_right = e.reads; cut = m.cut }); reads_right = (refl, refl); cut = sym (append-nil xs) })
    l

pub good_schema : (text : Bytes) → Good (g.schema text) stop_schema (r.schema text)
good_schema text = good_same (tables text) (g.schema text) stop_schema (r.schema text) (there text) (back text) (good_map (runs text) (r.runs text) stop_schema (good_runs text) (λ a. a.tables))

pub some_schema : (text : Bytes) → Some (g.schema text)
some_schema text = record { text = []; value = []; reads = inl (refl, refl) }
