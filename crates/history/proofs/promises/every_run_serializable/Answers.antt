use Rattle.history.proofs.Serializability.{every_run_serializable}
use Rattle.history.proofs.promises.every_run_serializable.Goals as goal

pub returns : goal.returns
returns c = every_run_serializable
