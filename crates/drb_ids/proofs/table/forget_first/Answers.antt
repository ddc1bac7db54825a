use Rattle.drb_ids.proofs.StandingLists.{live_of-remove_entry, are_minted-remove_entry}
use Rattle.drb_ids.proofs.TableLemmas.{forgotten, oldest-stands}
use Rattle.drb_ids.proofs.table.forget_first.Goals as goal

pub returns-in-Some-clause-tied : goal.returns-in-Some-clause-tied
returns-in-Some-clause-tied c = rw c.remove.ensures.entries (forgotten _ c.in-Some.oldest _ (rw c.in-Some.ensures.items at c.requires.tied))

pub returns-in-Some-clause-live : goal.returns-in-Some-clause-live
returns-in-Some-clause-live c = rw c.remove.ensures.entries (live_of-remove_entry c.in-Some.oldest.id c.args.objects.now.entries _ _ (oldest-stands c.args.objects.now.entries c.in-Some.oldest c.pop_front.new.self.items (rw c.in-Some.ensures.items at c.requires.tied)))

pub returns-in-Some-clause-minted : goal.returns-in-Some-clause-minted
returns-in-Some-clause-minted c given h = rw c.remove.ensures.entries (are_minted-remove_entry given c.in-Some.oldest.id c.args.objects.now.entries h)
