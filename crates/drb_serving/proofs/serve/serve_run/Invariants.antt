use Rattle.drb_serving.proofs.serve.serve_run.Given as goal

abbrev pub ghosts-serve_named : goal.ghosts-serve_named
ghosts-serve_named g a = record { faults = g.N.Doors.faults a.doors; ends = g.N.Doors.ends a.doors }
