-- What `drbts serve` serves with: docs/SESSIONS.md, The command serve.
use Rattle.drb_tree.specs.declared.Code.TheVariants.{Utf8}
use Rattle.drb_serving.specs.declared.settings.Settings.{Settings}
use Rattle.drb_server.specs.Words.{Word}
use Rattle.drb_server.specs.ServeWords.{ServeOptions}

-- a request has at most 256 arguments
abbrev pub settings_at : ServeOptions → Word → Settings
settings_at o uri = record {
  place = record {
    uri = record { bytes = uri; code = Utf8 };
    limits = record { load = o.load_limit; args = 256 };
  };
  workers = o.workers;
  shut_after = o.shut_after;
}
