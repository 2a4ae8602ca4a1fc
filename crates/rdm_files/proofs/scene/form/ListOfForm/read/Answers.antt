use Rattle.std.proofs.Common.{◌≡◌, ◌+◌, ◌++◌, ◌∷◌, [], sym, ◌∙◌, subst, arith, take, rules}
use Rattle.serde_json.specs.View.{view, items_view}
use Rattle.rdm_files.specs.Forms.{Each}
use Rattle.rdm_files.proofs.FormLemmas.{each_none, each_next, no_list, list_many, list_of}
use Rattle.rdm_files.proofs.scene.form.ListOfForm.read.Goals as goal
use Rattle.rdm_files.proofs.scene.form.ListOfForm.read.Goals.{then-len-self-via-then-len-self}
use Rattle.rdm_files.proofs.scene.form.ListOfForm.read.Goals.{then-len-self-via-else-len-self+then-self-len}

pub returns-then-len-self : goal.returns-then-len-self
returns-then-len-self g c other xs list =
    let many = list_many (g.F.Form.says c.args.self.now.form) c.args.self.now.least c.args.self.now.most
    (view c.args.value.now) c.in-Some.values.now.items c.in-Some.ensures xs list in
    let low = list.at_least in
    let high = list.at_most in
    elim c.then-len-self.branch [
      | then-len-self-via-then-len-self w ↦ omega arith
      | then-len-self-via-else-len-self+then-self-len w ↦ omega arith
    ]

pub items-init : goal.items-init
items-init g c = each_none (g.F.Form.says c.args.self.now.form) c.new-items.result.items c.new-items.ensures.items

pub returns-in-Err : goal.returns-in-Err
returns-in-Err g c other = no_list (g.F.Form.says c.args.self.now.form) c.args.self.now.least c.args.self.now.most
    (view c.args.value.now) c.in-Some.values.now.items c.items.i c.index.result.now c.in-Some.ensures (omega arith)
    c.index.ensures (c.in-Err.ensures (sym c.in_item.ensures ∙ other))

pub items-preserved : goal.items-preserved
items-preserved g c =
    let pushed : c.push.new.self.items ≡ c.items.items.items ++ c.in-Ok.item ∷ [] = search rules in
    subst (Each (g.F.Form.says c.args.self.now.form) (items_view (take (c.items.i + 1) c.in-Some.values.now.items)))
    (sym pushed)
    (each_next (g.F.Form.says c.args.self.now.form) c.in-Some.values.now.items c.items.items.items c.items.i
    c.index.result.now c.in-Ok.item (omega arith) c.index.ensures c.items.invariant c.in-Ok.ensures)

pub returns : goal.returns
returns g c = list_of (g.F.Form.says c.args.self.now.form) c.args.self.now.least c.args.self.now.most
    (view c.args.value.now) c.in-Some.values.now.items c.items.i c.items.items.items c.in-Some.ensures (omega arith)
    (omega arith) (omega arith) c.items.invariant
