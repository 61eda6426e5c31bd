-- A query's parser that asks less, or may open one level more, changes nothing but what was refused for it.
use Rattle.std.proofs.Common.{◌≡◌, ℕ, zero, suc, Bool, true, false, List, [], length, ℤ}
use Rattle.std.specs.Prelude as Opt
use Rattle.phrases.specs.Parsers.{refuse, ◌>>=◌}
use Rattle.phrases.proofs.Good.{free}
use Rattle.phrases.proofs.Deeper.{Rel, Within, rel_refuse, rel_bind, rel_either, rel_opening, rel_repeat, rel_map, within_good}
use Rattle.sql_read.specs.declared.kind.Kind.{Kind}
use Rattle.sql_read.specs.declared.kind.Kind.TheVariants as k
use Rattle.sql_read.specs.declared.token_list.Token.{Token}
use Rattle.sql_read.specs.Lexis.{Bytes}
use Rattle.sql_read.specs.Schema.{is}
use Rattle.query_read.specs.declared.fault.Fault.{Fault}
use Rattle.query_read.specs.declared.fault.Fault.TheVariants.{Unexpected, TooDeep, NoDate, NoSpan, OutOfRange}
use Rattle.query_trees.specs.declared.expr.Expr.{Expr}
use Rattle.query_trees.specs.declared.clauses.Join.{Join}
use Rattle.query_read.specs.Asked.{Asked}
use Rattle.query_read.specs.Days.{no_date, no_span, leaves, day_at, span_at}
use Rattle.query_read.specs.Classes.{joins}
use Rattle.query_read.specs.Nodes.{signs, of}
use Rattle.query_read.specs.Expressions as g
use Rattle.query_read.specs.ExpressionParsers as r
use Rattle.query_read.specs.ExpressionParsers.{Parser, Under, expect, opening}
use Rattle.query_read.specs.ClauseParsers as c
use Rattle.query_read.proofs.FitsExpressions.{level, pred_stops, atom_stops, fits_closed, fits_closed_count, fits_closed_sums, fits_closed_choices, fits_negation, fits_after_sign}
use Rattle.query_read.proofs.Lenient.{Eases, Opens, rel_sound, rel_lenient, after, ends, rel_series, rel_column, rel_expr, rel_parens, rel_counted, rel_listed, rel_choices, rel_nots, rel_signed}

-- ---- clauses, over expressions

module _ (deep : Fault) (other : Unexpected ≡ deep → ⊥) (text : Bytes) where
  rel_named : Rel deep (c.named text) (c.named text)
  unfolding c.named
  rel_named = after deep other k.Name _ _ (λ n. ends deep other _)

  rel_alias : Rel deep (c.alias text) (c.alias text)
  unfolding c.alias
  rel_alias = rel_either deep (is k.As) _ _ _ _ (after deep other k.As _ _ (λ _. rel_named)) (rel_either deep (is k.Name) _ _ _ _ rel_named (ends deep other Opt.None))

  rel_table : Rel deep (c.table text) (c.table text)
  unfolding c.table
  rel_table = after deep other k.Name _ _ (λ n. rel_map deep (c.alias text) (c.alias text) _ rel_alias)

  rel_on : (t : Token) → Rel deep (c.on text t) (c.on text t)
  unfolding c.on
  rel_on t = rel_bind deep (c.table text) (c.table text) _ _ rel_table (λ x. after deep other k.On _ _ (λ _. rel_bind deep (r.column text) (r.column text) _ _ (rel_column deep other text) (λ a. after deep other k.Equal _ _ (λ q. rel_map deep (r.column text) (r.column text) _ (rel_column deep other text)))))

  rel_added_table : Rel deep (c.added_table text) (c.added_table text)
  unfolding c.added_table c.by_comma c.by_cross c.by_key
  rel_added_table = rel_either deep (is k.Comma) _ _ _ _ (after deep other k.Comma _ _ (λ t. rel_map deep (c.table text) (c.table text) _ rel_table))
      (rel_either deep (is k.Cross) _ _ _ _ (after deep other k.Cross _ _ (λ t. after deep other k.Join _ _ (λ _. rel_map deep (c.table text) (c.table text) _ rel_table)))
      (rel_either deep (is k.Inner) _ _ _ _ (after deep other k.Inner _ _ (λ t. after deep other k.Join _ _ (λ _. rel_on t))) (after deep other k.Join _ _ (λ t. rel_on t))))

  rel_join : (js : List Join) → Rel deep (c.join text js) (c.join text js)
  unfolding c.join
  rel_join js = rel_map deep (c.added_table text) (c.added_table text) _ rel_added_table

  rel_source : Rel deep (c.source text) (c.source text)
  unfolding c.source
  rel_source = rel_bind deep (c.table text) (c.table text) _ _ rel_table (λ t. rel_map deep (c.more_joins text []) (c.more_joins text []) _ (rel_repeat deep (of joins) (c.join text) (c.join text) rel_join []))

  rel_key : Rel deep (c.key text) (c.key text)
  unfolding c.key c.sort_by c.direction
  rel_key = rel_bind deep (c.sort_by text) (c.sort_by text) _ _
      (rel_either deep (is k.Digits) _ _ _ _ (after deep other k.Digits _ _ (λ n. ends deep other _)) (rel_map deep (r.column text) (r.column text) _ (rel_column deep other text)))
      (λ b. rel_map deep c.direction c.direction _ (rel_either deep (is k.Asc) _ _ _ _ (after deep other k.Asc _ _ (λ _. ends deep other _)) (rel_either deep (is k.Desc) _ _ _ _ (after deep other k.Desc _ _ (λ _. ends deep other _)) (ends deep other _))))

  rel_order : Rel deep (c.order text) (c.order text)
  unfolding c.order
  rel_order = rel_either deep (is k.Order) _ _ _ _ (after deep other k.Order _ _ (λ _. after deep other k.By _ _ (λ _. rel_series deep other (c.key text) (c.key text) rel_key))) (ends deep other [])

  module _ (q s : Parser Expr) (h : Rel deep q s) where
    rel_item : Rel deep (c.item text q) (c.item text s)
    unfolding c.item
    rel_item = rel_bind deep q s _ _ h (λ a. rel_map deep (c.alias text) (c.alias text) _ rel_alias)

    rel_list : Rel deep (c.list text q) (c.list text s)
    unfolding c.list
    rel_list = rel_either deep (is k.Star) _ _ _ _ (after deep other k.Star _ _ (λ t. ends deep other _)) (rel_map deep (r.series (c.item text q)) (r.series (c.item text s)) _ (rel_series deep other (c.item text q) (c.item text s) rel_item))

    rel_condition : (kind : Kind) → Rel deep (c.condition kind q) (c.condition kind s)
    unfolding c.condition
    rel_condition kind = rel_either deep (is kind) _ _ _ _ (after deep other kind _ _ (λ _. rel_map deep q s _ h)) (ends deep other Opt.None)

    rel_groups : Rel deep (c.groups text q) (c.groups text s)
    unfolding c.groups c.by_groups
    rel_groups = rel_either deep (is k.Group) _ _ _ _
        (after deep other k.Group _ _ (λ _. after deep other k.By _ _ (λ _. rel_bind deep (r.series (r.column text)) (r.series (r.column text)) _ _ (rel_series deep other (r.column text) (r.column text) (rel_column deep other text)) (λ cs. rel_map deep (c.condition k.Having q) (c.condition k.Having s) _ (rel_condition k.Having)))))
        (ends deep other _)

    rel_query_over : Rel deep (c.query_over text q) (c.query_over text s)
    unfolding c.query_over c.distinct c.closed
    rel_query_over = after deep other k.Select _ _
        (λ t. rel_bind deep c.distinct c.distinct _ _ (rel_either deep (is k.Distinct) _ _ _ _ (after deep other k.Distinct _ _ (λ t. ends deep other _)) (ends deep other Opt.None))
        (λ x. rel_bind deep (c.list text q) (c.list text s) _ _ rel_list
        (λ l. after deep other k.From _ _
        (λ _. rel_bind deep (c.source text) (c.source text) _ _ rel_source
        (λ f. rel_bind deep (c.condition k.Where q) (c.condition k.Where s) _ _ (rel_condition k.Where)
        (λ w. rel_bind deep (c.groups text q) (c.groups text s) _ _ rel_groups
        (λ h. rel_bind deep (c.order text) (c.order text) _ _ rel_order
        (λ o. rel_either deep (is k.Semicolon) _ _ _ _ (after deep other k.Semicolon _ _ (λ _. ends deep other _)) (ends deep other _)))))))))

-- ---- less is asked, at any number of levels

rel_shut : {A : Type 0} (deep : Fault) → (Unexpected ≡ deep → ⊥) → (q s : Parser A) → Rel deep q s → Rel deep (opening q) (opening s)
rel_shut deep other q s h = rel_either deep (is k.OpenParen) q s (refuse Unexpected) (refuse Unexpected) h (rel_refuse deep Unexpected other)

module _ (deep : Fault) (m n : Asked) (e : Eases deep m n) (shallow : TooDeep ≡ deep → ⊥) (text : Bytes) where
  rel_under : (i : ℕ) → Opens deep (r.under m text i) (r.under n text i)
  unfolding r.under
  rel_under zero = record {
    parens = rel_shut deep e.other (refuse TooDeep) (refuse TooDeep) (rel_refuse deep TooDeep shallow);
    counted = rel_shut deep e.other (refuse TooDeep) (refuse TooDeep) (rel_refuse deep TooDeep shallow);
    list = rel_shut deep e.other (refuse TooDeep) (refuse TooDeep) (rel_refuse deep TooDeep shallow);
    choices = rel_shut deep e.other (refuse TooDeep) (refuse TooDeep) (rel_refuse deep TooDeep shallow);
    nots = λ s t h. rel_either deep (is k.Not) (refuse TooDeep) (refuse TooDeep) s t (rel_refuse deep TooDeep shallow) h;
    signed = λ s t h. rel_either deep (of signs) (refuse TooDeep) (refuse TooDeep) s t (rel_refuse deep TooDeep shallow) h;
  }
  rel_under (suc i) =
      let u = r.under m text i in
      let v = r.under n text i in
      let o = rel_under i in
      record {
        parens = rel_shut deep e.other (r.parens m text u) (r.parens n text v) (rel_parens deep m n e text u v o);
        counted = rel_shut deep e.other (r.counted m text u) (r.counted n text v) (rel_counted deep m n e text u v o);
        list = rel_shut deep e.other (r.listed m text u) (r.listed n text v) (rel_listed deep m n e text u v o);
        choices = rel_shut deep e.other (r.choices m text u) (r.choices n text v) (rel_choices deep m n e text u v o);
        nots = λ s t h. rel_either deep (is k.Not) (r.nots m text u) (r.nots n text v) s t (rel_nots deep m n e text u v o) h;
        signed = λ s t h. rel_either deep (of signs) (r.signed m text u) (r.signed n text v) s t (rel_signed deep m n e text u v o) h;
      }

  pub rel_asked : (i : ℕ) → Rel deep (c.query m text i) (c.query n text i)
  rel_asked i = rel_query_over deep e.other text (r.expr m text (r.under m text i)) (r.expr n text (r.under n text i)) (rel_expr deep m n e text (r.under m text i) (r.under n text i) (rel_under i))

other_date : Unexpected ≡ NoDate → ⊥
other_date h = cc

other_span : Unexpected ≡ NoSpan → ⊥
other_span h = cc

other_range : Unexpected ≡ OutOfRange → ⊥
other_range h = cc

other_deep : Unexpected ≡ TooDeep → ⊥
other_deep h = cc

module _ (a b d : Bool) where
  abbrev asks : Bool → Bool → Bool → Asked
  asks x y z = record { dates = x; spans = y; ranges = z }

  same_dates : (deep : Fault) → (Unexpected ≡ deep → ⊥) → (NoDate ≡ deep → ⊥) → (x y z y' z' : Bool) (text : Bytes) → Rel deep (r.date_text (asks x y z) text) (r.date_text (asks x y' z') text)
  unfolding r.date_text
  same_dates deep other ne x y z y' z' text = rel_map deep (r.sound NoDate (is k.Quoted) (no_date (asks x y z) text)) (r.sound NoDate (is k.Quoted) (no_date (asks x y z) text)) (day_at text) (rel_sound deep NoDate other ne (is k.Quoted) (no_date (asks x y z) text))

  same_spans : (deep : Fault) → (Unexpected ≡ deep → ⊥) → (NoSpan ≡ deep → ⊥) → (x y z x' z' : Bool) (text : Bytes) → Rel deep (r.span_text (asks x y z) text) (r.span_text (asks x' y z') text)
  unfolding r.span_text
  same_spans deep other ne x y z x' z' text = rel_map deep (r.sound NoSpan (is k.Quoted) (no_span (asks x y z) text)) (r.sound NoSpan (is k.Quoted) (no_span (asks x y z) text)) (span_at text) (rel_sound deep NoSpan other ne (is k.Quoted) (no_span (asks x y z) text))

  same_days : (deep : Fault) → (Unexpected ≡ deep → ⊥) → (OutOfRange ≡ deep → ⊥) → (x y z x' y' : Bool) (day : ℤ) → Rel deep (r.last_day (asks x y z) day) (r.last_day (asks x' y' z) day)
  unfolding r.last_day
  same_days deep other ne x y z x' y' day = rel_map deep (r.sound OutOfRange (is k.Day) (leaves (asks x y z) day)) (r.sound OutOfRange (is k.Day) (leaves (asks x y z) day)) (λ _. day) (rel_sound deep OutOfRange other ne (is k.Day) (leaves (asks x y z) day))

  no_dates : (text : Bytes) → Rel NoDate (r.date_text (asks true b d) text) (r.date_text (asks false b d) text)
  unfolding r.date_text
  no_dates text = rel_map NoDate _ _ (day_at text) (rel_lenient NoDate other_date (is k.Quoted) (no_date (asks true b d) text))

  no_spans : (text : Bytes) → Rel NoSpan (r.span_text (asks a true d) text) (r.span_text (asks a false d) text)
  unfolding r.span_text
  no_spans text = rel_map NoSpan _ _ (span_at text) (rel_lenient NoSpan other_span (is k.Quoted) (no_span (asks a true d) text))

  no_days : (day : ℤ) → Rel OutOfRange (r.last_day (asks a b true) day) (r.last_day (asks a b false) day)
  unfolding r.last_day
  no_days day = rel_map OutOfRange _ _ (λ _. day) (rel_lenient OutOfRange other_range (is k.Day) (leaves (asks a b true) day))

  eases_dates : Eases NoDate (asks true b d) (asks false b d)
  eases_dates = record { other = other_date; dates = no_dates; spans = same_spans NoDate other_date (λ h. cc) true b d false d; days = same_days NoDate other_date (λ h. cc) true b d false b }

  eases_spans : Eases NoSpan (asks a true d) (asks a false d)
  eases_spans = record { other = other_span; dates = same_dates NoSpan other_span (λ h. cc) a true d false d; spans = no_spans; days = same_days NoSpan other_span (λ h. cc) a true d a false }

  eases_ranges : Eases OutOfRange (asks a b true) (asks a b false)
  eases_ranges = record { other = other_range; dates = same_dates OutOfRange other_range (λ h. cc) a b true b false; spans = same_spans OutOfRange other_range (λ h. cc) a b true a false; days = no_days }

  eases_levels : Eases TooDeep (asks a b d) (asks a b d)
  eases_levels = record { other = other_deep; dates = same_dates TooDeep other_deep (λ h. cc) a b d b d; spans = same_spans TooDeep other_deep (λ h. cc) a b d a d; days = same_days TooDeep other_deep (λ h. cc) a b d a b }

  pub less_dates : (text : Bytes) (i : ℕ) → Rel NoDate (c.query (asks true b d) text i) (c.query (asks false b d) text i)
  less_dates text i = rel_asked NoDate (asks true b d) (asks false b d) eases_dates (λ h. cc) text i

  pub less_spans : (text : Bytes) (i : ℕ) → Rel NoSpan (c.query (asks a true d) text i) (c.query (asks a false d) text i)
  less_spans text i = rel_asked NoSpan (asks a true d) (asks a false d) eases_spans (λ h. cc) text i

  pub less_ranges : (text : Bytes) (i : ℕ) → Rel OutOfRange (c.query (asks a b true) text i) (c.query (asks a b false) text i)
  less_ranges text i = rel_asked OutOfRange (asks a b true) (asks a b false) eases_ranges (λ h. cc) text i

  -- ---- one level more

  module _ (text : Bytes) where
    abbrev m : Asked
    m = asks a b d

    -- a parenthesis that was too deep
    opened : {A : Type 0} (q : Token → Parser A) → ((t : Token) (ts : List Token) → Within (length ts) (q t ts)) → Rel TooDeep (opening (refuse TooDeep)) (opening (expect k.OpenParen >>= q))
    opened q w = rel_opening TooDeep Unexpected (is k.OpenParen) q (refuse Unexpected) (refuse Unexpected) w (rel_refuse TooDeep Unexpected other_deep)

    deeper_zero : Opens TooDeep (r.under m text 0) (r.under m text 1)
    unfolding r.under r.parens r.counted r.listed r.choices r.nots r.signed
    deeper_zero =
        let u = r.under m text 0 in
        let w = g.depth m text 0 in
        let v = level m text 0 in
        record {
          parens = opened _ (λ t ts. within_good _ free _ (fits_closed m text w u v t) ts);
          counted = opened _ (λ t ts. within_good _ free _ (fits_closed_count m text w u v) ts);
          list = opened _ (λ t ts. within_good _ free _ (fits_closed_sums m text w u v) ts);
          choices = opened _ (λ t ts. within_good _ free _ (fits_closed_choices m text w u v) ts);
          nots = λ s t h. rel_opening TooDeep Unexpected (is k.Not) _ s t (λ x ts. within_good _ (of pred_stops) _ (fits_negation m text w u v x) ts) h;
          signed = λ s t h. rel_opening TooDeep Unexpected (of signs) _ s t (λ x ts. within_good _ (of atom_stops) _ (fits_after_sign m text w u v x) ts) h;
        }

    deeper : (i : ℕ) → Opens TooDeep (r.under m text i) (r.under m text (suc i))
    unfolding r.under
    deeper zero = deeper_zero
    deeper (suc i) =
        let u = r.under m text i in
        let v = r.under m text (suc i) in
        let o = deeper i in
        let e = eases_levels in
        record {
          parens = rel_shut TooDeep other_deep (r.parens m text u) (r.parens m text v) (rel_parens TooDeep m m e text u v o);
          counted = rel_shut TooDeep other_deep (r.counted m text u) (r.counted m text v) (rel_counted TooDeep m m e text u v o);
          list = rel_shut TooDeep other_deep (r.listed m text u) (r.listed m text v) (rel_listed TooDeep m m e text u v o);
          choices = rel_shut TooDeep other_deep (r.choices m text u) (r.choices m text v) (rel_choices TooDeep m m e text u v o);
          nots = λ s t h. rel_either TooDeep (is k.Not) (r.nots m text u) (r.nots m text v) s t (rel_nots TooDeep m m e text u v o) h;
          signed = λ s t h. rel_either TooDeep (of signs) (r.signed m text u) (r.signed m text v) s t (rel_signed TooDeep m m e text u v o) h;
        }

    pub more_levels : (i : ℕ) → Rel TooDeep (c.query m text i) (c.query m text (suc i))
    more_levels i = rel_query_over TooDeep other_deep text (r.expr m text (r.under m text i)) (r.expr m text (r.under m text (suc i))) (rel_expr TooDeep m m eases_levels text (r.under m text i) (r.under m text (suc i)) (deeper i))
