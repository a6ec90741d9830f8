use Rattle.history.proofs.Joining.{every_run_from_made}
use Rattle.hub.proofs.hub.idle.Goals as goal

pub returns : goal.returns
returns c = record {
  made = c.new.ensures;
  serializable = λ values room. every_run_from_made _ 32 c.args.first room values (c.new.ensures values room);
}
