use Rattle.std.proofs.Common.{◌≡◌, ◌∙◌, ap, length, map, pos, subst, sym}
use Rattle.dict_codes.specs.Dictionaries.{rank_in}
use Rattle.table_load.specs.Vectors.{attributes_in}
use Rattle.table_load.proofs.ColumnNames.{make_vector, MakeVector}
use Rattle.table_load.proofs.VectorFacts.{vector_same}
use Rattle.table_load.proofs.vectors.vector_of.Goals as goal

pub returns : goal.returns
returns c =
    let t = c.table.inside in
    let dictionary = c.args.dictionary.now in
    let codes : c.in_ok-codes.codes.items ≡ map (λ t. pos (rank_in dictionary t)) t.texts.items = c.in_ok-codes.ensures ∙ ap (map (λ t. pos (rank_in dictionary t))) c.as_slice.ensures.value in
    let attributes : c.in_ok-attributes.attributes.items ≡ attributes_in c.in_ok-codes.codes.items t.are_texts.items t.columns.items c.args.def.now.columns =
    rw (c.as_slice-2.ensures, c.as_slice-3.ensures.value, c.as_slice-4.ensures.value) at c.in_ok-attributes.ensures
    in
    let lengths = rw (← c.table.view_is) at c.requires.loaded in
    rw (← c.table.view_is, ← vector_same dictionary t.texts.items t.are_texts.items t.columns.items t.count c.args.def.now c.in_ok-codes.codes.items c.in_ok-attributes.attributes.items c.table.invariant.columns_whole lengths codes attributes)
    c.vector_of_attributes.ensures

pub vector_of_attributes-requires-clause-some : goal.vector_of_attributes-requires-clause-some
vector_of_attributes-requires-clause-some c =
    let t = c.table.inside in
    let attributes : c.in_ok-attributes.attributes.items ≡ attributes_in c.in_ok-codes.codes.items t.are_texts.items t.columns.items c.args.def.now.columns =
    rw (c.as_slice-2.ensures, c.as_slice-3.ensures.value, c.as_slice-4.ensures.value) at c.in_ok-attributes.ensures
    in
    let lengths = rw (← c.table.view_is) at c.requires.loaded in
    let made = subst (MakeVector t.count) (sym attributes) (make_vector c.in_ok-codes.codes.items (length t.texts.items) t.count t.are_texts.items t.columns.items c.args.def.now c.table.invariant.columns_whole lengths c.requires.columns) in
    made.some

pub vector_of_attributes-requires-clause-few : goal.vector_of_attributes-requires-clause-few
vector_of_attributes-requires-clause-few c =
    let t = c.table.inside in
    let attributes : c.in_ok-attributes.attributes.items ≡ attributes_in c.in_ok-codes.codes.items t.are_texts.items t.columns.items c.args.def.now.columns =
    rw (c.as_slice-2.ensures, c.as_slice-3.ensures.value, c.as_slice-4.ensures.value) at c.in_ok-attributes.ensures
    in
    let lengths = rw (← c.table.view_is) at c.requires.loaded in
    let made = subst (MakeVector t.count) (sym attributes) (make_vector c.in_ok-codes.codes.items (length t.texts.items) t.count t.are_texts.items t.columns.items c.args.def.now c.table.invariant.columns_whole lengths c.requires.columns) in
    made.few

pub vector_of_attributes-requires-clause-lengths : goal.vector_of_attributes-requires-clause-lengths
vector_of_attributes-requires-clause-lengths c =
    let t = c.table.inside in
    let attributes : c.in_ok-attributes.attributes.items ≡ attributes_in c.in_ok-codes.codes.items t.are_texts.items t.columns.items c.args.def.now.columns =
    rw (c.as_slice-2.ensures, c.as_slice-3.ensures.value, c.as_slice-4.ensures.value) at c.in_ok-attributes.ensures
    in
    let lengths = rw (← c.table.view_is) at c.requires.loaded in
    let made = subst (MakeVector t.count) (sym attributes) (make_vector c.in_ok-codes.codes.items (length t.texts.items) t.count t.are_texts.items t.columns.items c.args.def.now c.table.invariant.columns_whole lengths c.requires.columns) in
    made.lengths

pub vector_of_attributes-requires-clause-paths : goal.vector_of_attributes-requires-clause-paths
vector_of_attributes-requires-clause-paths c =
    let t = c.table.inside in
    let attributes : c.in_ok-attributes.attributes.items ≡ attributes_in c.in_ok-codes.codes.items t.are_texts.items t.columns.items c.args.def.now.columns =
    rw (c.as_slice-2.ensures, c.as_slice-3.ensures.value, c.as_slice-4.ensures.value) at c.in_ok-attributes.ensures
    in
    let lengths = rw (← c.table.view_is) at c.requires.loaded in
    let made = subst (MakeVector t.count) (sym attributes) (make_vector c.in_ok-codes.codes.items (length t.texts.items) t.count t.are_texts.items t.columns.items c.args.def.now c.table.invariant.columns_whole lengths c.requires.columns) in
    made.paths
