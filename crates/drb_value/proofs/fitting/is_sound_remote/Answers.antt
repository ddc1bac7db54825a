use Rattle.std.proofs.Common.{◌+◌, ◌≡◌, ◌≤◌, length, ◌/◌, [], ◌∷◌, arith}
use Rattle.std.proofs.lemmas.Bool.{leb-true, le-leb}
use Rattle.drb_tree.specs.declared.RefId.{RefId}
use Rattle.drb_tree.specs.declared.RefId.TheVariants as R
use Rattle.drb_tree.specs.declared.Remote.{Remote}
use Rattle.drb_tree.specs.declared.Tree.TheOpen.{Tree-F}
use Rattle.drb_tree.specs.Kept.{remote_list, id_tree}
use Rattle.drb_tree.specs.Sizes.{depth, nodes, heavy, id_bytes}
use Rattle.drb_tree.specs.Trees.{text_tree}
use Rattle.drb_tree.proofs.Sizes.{depth_roll, nodes_roll}
use Rattle.drb_value.proofs.fitting.is_sound_remote.Goals as goal

id_nodes : (id : RefId) → nodes (id_tree id) ≡ heavy (id_bytes id)
id_nodes R.Front = nodes_roll Tree-F.Nil
id_nodes (R.Number i) = nodes_roll (Tree-F.Int i)
id_nodes (R.Text t) = nodes_roll (Tree-F.Text t)

id_depth : (id : RefId) → depth (id_tree id) ≡ 1
id_depth R.Front = depth_roll Tree-F.Nil
id_depth (R.Number i) = depth_roll (Tree-F.Int i)
id_depth (R.Text t) = depth_roll (Tree-F.Text t)

remote_depth : (r : Remote) → depth (remote_list r) ≤ 2
remote_depth r = omega (arith, depth_roll (Tree-F.List (text_tree r.uri ∷ id_tree r.id ∷ [])), depth_roll (Tree-F.Text r.uri), id_depth r.id)

remote_nodes : (r : Remote) → nodes (remote_list r) ≡ 3 + length r.uri.bytes / 256 + length (id_bytes r.id) / 256
remote_nodes r = omega (arith, nodes_roll (Tree-F.List (text_tree r.uri ∷ id_tree r.id ∷ [])), nodes_roll (Tree-F.Text r.uri), id_nodes r.id)

pub returns-clause-within : goal.returns-clause-within
returns-clause-within c =
    let r = c.args.remote.now in
    let n : nodes (remote_list r) ≡ 3 + length c.as_slice-uri.result.now / 256 + length c.text_bytes-id.result.now / 256 =
    rw (c.as_slice-uri.ensures, c.text_bytes-id.ensures) (remote_nodes r) in (
      λ h. (omega (arith, remote_depth r), omega (arith, n, leb-true _ _ h)),
      λ h. le-leb _ _ (omega (arith, n, h.1)),
    )
