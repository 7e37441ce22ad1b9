use Rattle.c65_agree_order.proofs.Bytes.{read_bytes_come}
use Rattle.c65_agree_order.proofs.laws.read_bytes_come.Goals as goal

pub returns : goal.returns
returns c = read_bytes_come
