use Rattle.kr_cmd_steps.proofs.RunTo.{configures}
use Rattle.kr_cmd_steps.proofs.phases.configure.Goals as goal

pub returns-clause-does : goal.returns-clause-does
returns-clause-does g c a = let done = c.load_settings in
    configures done.ensures.files done.ensures.objects a c.args.name.now done.result
    done.ensures.settings done.ensures.asked

pub returns-clause-links : goal.returns-clause-links
returns-clause-links g c = c.load_settings.ensures.objects.links
