mod Recipe
