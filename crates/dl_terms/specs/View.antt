-- The tree that contracts see of a `Term`.
use Rattle.std.specs.Prelude.{List, [], ◌∷◌, map}
use Rattle.dl_terms.specs.Tree.{Tree, ended, load, pick, follow, each, all, over, the_item, named, Trees, no_trees, tree}
use Rattle.dl_terms.specs.declared.answer.Answer.TheVariants as answer
use Rattle.dl_terms.specs.declared.term.Term.{Term}
use Rattle.dl_terms.specs.declared.term.Term.TheOpen.{Term-F}
use Rattle.dl_terms.specs.declared.term.Term.TheFolds.{fold-Term}

abbrev pub trees_of : List Tree → Trees
trees_of [] = no_trees
trees_of (t ∷ ts) = tree t (trees_of ts)

-- one level, with each part already seen as its tree
abbrev pub term_step : Term-F Tree → Tree
term_step (Term-F.Value d) = ended (answer.Value d)
term_step (Term-F.Load k) = load k
term_step (Term-F.Pick p field) = pick p.value field
term_step (Term-F.Follow p field table) = follow p.value field table
term_step (Term-F.Each p field table) = each p.value field table
term_step (Term-F.All v) = all (trees_of v.items)
term_step (Term-F.Over p body) = over p.value body.value
term_step Term-F.Item = the_item
term_step (Term-F.Object names v) = named names (trees_of v.items)

abbrev pub term_view : Term → Tree
term_view = fold-Term Tree term_step

abbrev pub terms_view : List Term → Trees
terms_view ts = trees_of (map term_view ts)
