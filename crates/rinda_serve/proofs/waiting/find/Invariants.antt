use Rattle.rinda_serve.proofs.waiting.find.Given as goal

abbrev pub ghosts-find_once : goal.ghosts-find_once
ghosts-find_once a = record { name = a.blank.name; parts = a.blank.parts }
