use Rattle.std.proofs.Common.{rules}
use Rattle.serde_json.specs.View.{view}
use Rattle.api_lines.specs.declared.reply_table.Heard.TheVariants.{Reply, Unknown, Stranger}
use Rattle.api_lines.proofs.TableLaws.{heard_exactly}
use Rattle.api_lines.proofs.reply_table.read_reply.Goals as goal

pub returns-clause-stranger : goal.returns-clause-stranger
returns-clause-stranger c = heard_exactly c.args.id.now c.args.op.now c.args.status (view c.args.body.now) c.heard_of.result Stranger (search rules)

pub returns-clause-reply : goal.returns-clause-reply
returns-clause-reply c = λ r.
    heard_exactly c.args.id.now c.args.op.now c.args.status (view c.args.body.now) c.heard_of.result (Reply r) (search rules)

pub returns-clause-unknown : goal.returns-clause-unknown
returns-clause-unknown c = heard_exactly c.args.id.now c.args.op.now c.args.status (view c.args.body.now) c.heard_of.result Unknown (search rules)
