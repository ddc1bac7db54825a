-- A value without parts is read again as it is written.
use Rattle.std.proofs.Common.{◌≡◌, ℕ, zero, suc, ◌-◌, ◌≤◌, ◌<◌, ◌^◌, ℤ, pos, negsuc, ◌≤ℤ◌, ◌<ℤ◌, List, Bool, true, arith}
use Rattle.std.proofs.lemmas.Str.{is_utf8-from_IsUtf8}
use Rattle.std.proofs.lemmas.Grind.{common_steps}
use Rattle.drb_tree.specs.declared.Text.{Text}
use Rattle.drb_tree.specs.declared.Remote.{Remote}
use Rattle.drb_tree.specs.declared.Tree.TheViews.{roll-Tree}
use Rattle.drb_tree.specs.declared.Tree.TheOpen.{Tree-F}
use Rattle.drb_tree.specs.Kept.{Keeps, InRange, Small, IsI128}
use Rattle.marshal_grammar.specs.Grammar.{Grammar}
use Rattle.marshal_grammar.specs.Values.{is_i128}
use Rattle.marshal_grammar.proofs.LongLists.{less}
use Rattle.marshal_grammar.proofs.WrittenLeaves.{nil_puts, bool_puts, int_puts, text_puts, named_puts_class, named_puts_module}
use Rattle.marshal_grammar.proofs.WrittenSymbols.{sym_puts}
use Rattle.marshal_grammar.proofs.Parts.{here_every}
use Rattle.marshal_grammar.proofs.WrittenParts.{Written}
use Rattle.marshal_grammar.proofs.WrittenForms.{by_layer, nodes_roll, depth_roll}

below : (n m : ℕ) → pos n <ℤ pos m → n < m
below n m h = grind (arith, common_steps)

over : (n m : ℕ) → negsuc m ≤ℤ negsuc n → n ≤ m
over n m h = grind (arith, common_steps)

pub i128_is : (i : ℤ) → IsI128 i → is_i128 i ≡ true
i128_is (pos n) h = less n (2 ^ 127) (below n (2 ^ 127) h.1)
i128_is (negsuc n) h = less n (2 ^ 127) (omega (arith, over n (2 ^ 127 - 1) h.0))

module _ (remotes : Grammar Remote) where
  pub nil_written : Written remotes (roll-Tree Tree-F.Nil)
  nil_written k zero c h l m = absurd (omega (arith, h, depth_roll Tree-F.Nil))
  nil_written k (suc room) c h l m = by_layer remotes (suc room) Tree-F.Nil c (nil_puts remotes room c (omega (arith, m, nodes_roll Tree-F.Nil)))

  pub bool_written : (b : Bool) → Written remotes (roll-Tree (Tree-F.Bool b))
  bool_written b k zero c h l m = absurd (omega (arith, h, depth_roll (Tree-F.Bool b)))
  bool_written b k (suc room) c h l m = by_layer remotes (suc room) (Tree-F.Bool b) c (bool_puts remotes room b c (omega (arith, m, nodes_roll (Tree-F.Bool b))))

  pub int_written : (i : ℤ) → Written remotes (roll-Tree (Tree-F.Int i))
  int_written i k zero c h l m = absurd (omega (arith, h, depth_roll (Tree-F.Int i)))
  int_written i k (suc room) c h l m = by_layer remotes (suc room) (Tree-F.Int i) c (int_puts remotes room i c (i128_is i (here_every InRange (Tree-F.Int i) k.1)) (omega (arith, m, nodes_roll (Tree-F.Int i))))

  pub sym_written : (s : List ℕ) → Written remotes (roll-Tree (Tree-F.Sym s))
  sym_written s k zero c h l m = absurd (omega (arith, h, depth_roll (Tree-F.Sym s)))
  sym_written s k (suc room) c h l m = by_layer remotes (suc room) (Tree-F.Sym s) c (sym_puts remotes room s c (is_utf8-from_IsUtf8 s (here_every Keeps (Tree-F.Sym s) k.0)) l (omega (arith, m, nodes_roll (Tree-F.Sym s))))

  pub text_written : (t : Text) → Written remotes (roll-Tree (Tree-F.Text t))
  text_written t k zero c h l m = absurd (omega (arith, h, depth_roll (Tree-F.Text t)))
  text_written t k (suc room) c h l m = by_layer remotes (suc room) (Tree-F.Text t) c (text_puts remotes room t.bytes t.code c l (omega (arith, m, nodes_roll (Tree-F.Text t))))

  pub class_written : (s : List ℕ) → Written remotes (roll-Tree (Tree-F.Class s))
  class_written s k zero c h l m = absurd (omega (arith, h, depth_roll (Tree-F.Class s)))
  class_written s k (suc room) c h l m = by_layer remotes (suc room) (Tree-F.Class s) c (named_puts_class remotes room s c (here_every Small (Tree-F.Class s) k.2) (omega (arith, m, nodes_roll (Tree-F.Class s))))

  pub module_written : (s : List ℕ) → Written remotes (roll-Tree (Tree-F.Module s))
  module_written s k zero c h l m = absurd (omega (arith, h, depth_roll (Tree-F.Module s)))
  module_written s k (suc room) c h l m = by_layer remotes (suc room) (Tree-F.Module s) c (named_puts_module remotes room s c (here_every Small (Tree-F.Module s) k.2) (omega (arith, m, nodes_roll (Tree-F.Module s))))
